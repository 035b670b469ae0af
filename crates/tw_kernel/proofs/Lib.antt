pub mod Rules
pub mod Variables
pub mod Spines
pub mod Roots
pub mod KindSpines
pub mod Contexts
