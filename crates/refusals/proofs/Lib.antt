pub mod WalkLaws
pub mod NameLaws
pub mod RowLaws
pub mod PartLaws
pub mod FitLaws
