pub mod View
pub mod Cases
pub mod Numbers
pub mod Entries
pub mod Laws
pub mod Orders
pub mod Tables
pub mod Patterns
