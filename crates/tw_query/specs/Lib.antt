pub mod View
pub mod Runs
pub mod UnderWay
pub mod Text
pub mod Rows
