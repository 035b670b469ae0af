pub mod Views
pub mod Args
pub mod OpenViews
pub mod OpenArgs
pub mod Weakened
pub mod Scopes
