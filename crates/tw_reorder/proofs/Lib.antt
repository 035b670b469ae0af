pub mod Walks
pub mod Listed
pub mod Turns
pub mod Orders
pub mod Placing
pub mod Contexts
pub mod Typed
pub mod Steps
