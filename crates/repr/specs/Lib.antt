-- What the answers of `repr` say, in terms of `nll_spec`.
pub mod Refusals
pub mod Reading
pub mod Types
pub mod Parts
pub mod Spelling
pub mod Stands
pub mod Rows
