-- Laws of loans.
pub mod ListLaws
pub mod ActionLaws
pub mod LendLaws
pub mod CountLaws
