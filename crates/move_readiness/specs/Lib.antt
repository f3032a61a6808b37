pub mod Parts
pub mod Reaching
pub mod ReachedLaws
