pub mod Leaves
pub mod Steps
pub mod Values
pub mod Closing
pub mod Enough
