pub mod Spines
pub mod Gives
pub mod Hints
