pub mod PathLaws
pub mod GainsLaws
pub mod LoanLaws
pub mod FillLaws
pub mod ScopeLaws
