pub mod Gains
pub mod Scope
pub mod Filling
