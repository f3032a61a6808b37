pub mod Listed
pub mod Writing
