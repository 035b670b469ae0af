pub mod View
pub mod OpenView
pub mod Codes
pub mod Shared
