pub mod Tables
pub mod Shape
pub mod Filling
pub mod Search
