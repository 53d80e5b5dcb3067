-- Laws of the types and the prefixes of paths.
pub mod FieldLaws
pub mod PrefixLaws
pub mod PathLaws
pub mod ShortestLaws
pub mod ShortLaws
