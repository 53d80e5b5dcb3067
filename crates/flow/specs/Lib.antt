pub mod Flows
pub mod Running
