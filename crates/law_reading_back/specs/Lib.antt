pub mod Names
pub mod Sketches
pub mod Spelling
pub mod Layout
pub mod Tokens
pub mod Legible
pub mod Laws
