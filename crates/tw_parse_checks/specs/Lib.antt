pub mod Marks
pub mod Checks
pub mod Shapes
pub mod Meanings
pub mod Faults
pub mod Parts
pub mod Laws
