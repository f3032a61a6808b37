pub mod Locating
pub mod Spanning
