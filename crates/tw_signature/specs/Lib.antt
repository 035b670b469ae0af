pub mod View
pub mod Names
pub mod Codes
pub mod Constants
pub mod Goal
pub mod Marks
pub mod Kept
