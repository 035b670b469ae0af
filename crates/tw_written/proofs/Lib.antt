pub mod Views
pub mod Steps
pub mod Waiting
pub mod Growing
pub mod Ordering
