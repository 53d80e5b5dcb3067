pub mod PathLaws
pub mod PointLaws
pub mod JudgeLaws
