pub mod Lists
pub mod OnlyShown
pub mod Walking
pub mod Dues
