pub mod Syntax
pub mod Rows
pub mod Meets
pub mod Keys
pub mod ViewLaws
