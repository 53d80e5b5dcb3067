-- Laws of verdicts.
pub mod SearchLaws
pub mod AccessLaws
pub mod ScopeLaws
pub mod FewLaws
pub mod FaultLaws
pub mod WriteLaws
