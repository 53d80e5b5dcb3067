-- Two types related under a variance.
pub mod Relates
