pub mod LentLaws
pub mod SomeLaws
pub mod ShiftLaws
