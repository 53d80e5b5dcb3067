pub mod File
pub mod Run
