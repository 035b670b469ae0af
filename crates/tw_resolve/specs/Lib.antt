pub mod Resolving
pub mod Resolved
pub mod Rest
pub mod Rows
pub mod Fitting
