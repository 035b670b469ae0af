pub mod View
pub mod SiteView
pub mod First
pub mod Parts
pub mod Dropping
