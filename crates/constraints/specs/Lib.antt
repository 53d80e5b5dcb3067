pub mod Constraining
