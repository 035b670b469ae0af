pub mod Declared
pub mod Groups
