pub mod Union
pub mod Some
