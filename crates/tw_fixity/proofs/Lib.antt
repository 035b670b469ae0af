pub mod Maps
pub mod NewestNames
pub mod Places
