mod Bindings
mod Calls
mod Heads
