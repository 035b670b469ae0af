pub mod Shown
pub mod Naming
pub mod Walks
pub mod Laws
pub mod Due
