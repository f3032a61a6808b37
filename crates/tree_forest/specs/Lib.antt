pub mod Limits
pub mod Compare
pub mod Forest
pub mod ForestLaws
pub mod Path
pub mod PathLaws
