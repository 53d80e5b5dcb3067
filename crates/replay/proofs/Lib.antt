pub mod SameLaws
pub mod FileLaws
pub mod AgreeLaws
pub mod RunLaws
