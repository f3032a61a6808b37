pub mod Table
pub mod Typings
