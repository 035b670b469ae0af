pub mod Ports
pub mod Files
pub mod Memory
pub mod MemoryFiles
pub mod Real
pub mod Disk
