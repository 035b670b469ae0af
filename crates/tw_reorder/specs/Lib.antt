pub mod Variables
pub mod Waiting
pub mod Moving
pub mod Reordered
