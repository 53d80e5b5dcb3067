pub mod AddLaws
pub mod ChosenLaws
pub mod ClosureLaws
pub mod RowLaws
pub mod LiveLaws
pub mod SeedLaws
pub mod KeptLaws
