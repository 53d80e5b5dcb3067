pub mod ShapeLaws
pub mod FillLaws
pub mod EdgeLaws
pub mod EntryLaws
pub mod RowLaws
pub mod SearchLaws
pub mod WalkLaws
pub mod PointLaws
