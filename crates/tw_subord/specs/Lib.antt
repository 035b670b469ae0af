pub mod View
pub mod Pairs
pub mod Rows
pub mod Leads
pub mod Walks
pub mod Laws
