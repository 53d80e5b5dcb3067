pub mod ListLaws
pub mod ActionLaws
pub mod SourceLaws
pub mod ConstrainLaws
pub mod FewLaws
