pub mod Making
pub mod Within
pub mod Passing
