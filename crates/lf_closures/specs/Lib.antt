pub mod Environments
pub mod Typing
pub mod Laws
