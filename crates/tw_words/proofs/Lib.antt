pub mod Examples
pub mod Uniqueness
pub mod Walked
pub mod Rows
pub mod Meaning
pub mod Clap
