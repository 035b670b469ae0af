pub mod View
pub mod Fits
pub mod Fresh
pub mod Deep
pub mod Indices
pub mod Plain
pub mod Telescope
