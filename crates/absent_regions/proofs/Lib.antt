pub mod MarkLaws
pub mod AbsentLaws
