pub mod FoundLaws
pub mod WriteLaws
pub mod SubstLaws
pub mod ShapeLaws
