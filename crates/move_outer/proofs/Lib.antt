pub mod Outer
pub mod OuterLaws
