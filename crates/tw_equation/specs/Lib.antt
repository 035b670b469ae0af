pub mod Text
pub mod LaidView
pub mod Locals
pub mod Sides
