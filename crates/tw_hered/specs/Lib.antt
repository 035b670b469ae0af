pub mod Fits
pub mod View
pub mod Known
pub mod Waiting
pub mod Made
