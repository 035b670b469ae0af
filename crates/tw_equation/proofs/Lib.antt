pub mod Laying
pub mod LocalTypes
pub mod Names
pub mod Skeletons
pub mod Whole
