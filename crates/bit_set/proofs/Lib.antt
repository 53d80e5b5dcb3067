pub mod BitLaws
pub mod RunLaws
pub mod SetLaws
pub mod RowLaws
pub mod TableLaws
pub mod MissingLaws
