pub mod Agreement
pub mod Reconstructed
pub mod Definitions
pub mod Shallow
