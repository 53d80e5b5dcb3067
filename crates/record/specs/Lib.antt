-- Where the parts of a decoded job lie in its record.
pub mod Rows
pub mod Blocks
pub mod Layout
pub mod Access
