mod Occurring
mod Scopes
mod Heads
mod Parts
mod Openness
mod Explicit
mod Meaning
mod Fresh
mod Choosing
pub mod Kept
mod Counting
pub mod Legibility
pub mod Laying
pub mod Lexing
pub mod Spacing
pub mod Fronts
pub mod Reading
pub mod Back
mod Bytes
pub mod Plainness
pub mod Defined
