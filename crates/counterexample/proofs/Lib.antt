pub mod Rows
pub mod Bytes
pub mod Writing
pub mod Searching
pub mod Showing
