pub mod Subtype
pub mod Own
