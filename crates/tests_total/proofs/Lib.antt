pub mod Entries
pub mod Clauses
pub mod Coverage
pub mod Passed
