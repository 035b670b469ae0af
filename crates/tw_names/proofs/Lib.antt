pub mod Views
pub mod Unknowns
pub mod Behind
pub mod Order
