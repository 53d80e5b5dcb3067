pub mod ChainLaws
pub mod SearchLaws
pub mod RunLaws
