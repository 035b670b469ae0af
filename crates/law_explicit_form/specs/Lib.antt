pub mod Form
pub mod Completion
pub mod Explicit
pub mod Laws
