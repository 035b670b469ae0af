pub mod Costs
pub mod Steps
