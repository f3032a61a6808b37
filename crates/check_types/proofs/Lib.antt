pub mod Heads
pub mod Subtypes
pub mod Writing
