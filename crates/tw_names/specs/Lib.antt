pub mod Scope
pub mod Unknown
pub mod Earliest
pub mod Domains
pub mod Texts
pub mod Waiting
