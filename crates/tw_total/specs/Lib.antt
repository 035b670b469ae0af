pub mod View
pub mod Entries
pub mod Passed
pub mod Answers
