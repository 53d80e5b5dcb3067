pub mod Search
pub mod Ran
