pub mod Numbers
pub mod Headers
pub mod Stopping
pub mod Reading
pub mod OneSearch
pub mod Examples
