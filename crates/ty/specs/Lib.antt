-- Types as they lie in bytes, in prefix order.
pub mod Shape
pub mod Written
pub mod Writing
