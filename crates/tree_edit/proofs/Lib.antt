pub mod Locating
pub mod Splicing
pub mod Bounds
pub mod Copying
pub mod Changing
pub mod Limiting
