pub mod Analysis
pub mod Steps
