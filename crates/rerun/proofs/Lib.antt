pub mod NamedLaws
pub mod PointLaws
pub mod RerunLaws
