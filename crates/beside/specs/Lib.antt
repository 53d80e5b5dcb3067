-- Two types side by side.
pub mod Beside
