pub mod State
pub mod View
pub mod Undoing
pub mod Codes
pub mod Laws
pub mod Named
