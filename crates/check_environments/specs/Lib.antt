pub mod Environment
pub mod Tells
pub mod Walk
pub mod Listing
pub mod EnvironmentLaws
pub mod UnionLaws
