pub mod Lists
pub mod States
pub mod Room
pub mod Stories
pub mod Marks
