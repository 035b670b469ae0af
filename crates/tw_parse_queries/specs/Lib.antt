pub mod Keywords
pub mod Bounds
pub mod Searches
pub mod Faults
pub mod Laws
