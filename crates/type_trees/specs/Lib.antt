pub mod Names
pub mod NameLaws
pub mod Builds
pub mod BuildLaws
