-- What is said of the types and the prefixes of paths.
pub mod Steps
pub mod Fields
pub mod Prefixes
pub mod Paths
