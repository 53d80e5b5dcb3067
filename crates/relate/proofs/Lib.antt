pub mod RelateLaws
