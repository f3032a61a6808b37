pub mod Wrote
pub mod WroteLaws
pub mod ForestWrite
pub mod Change
pub mod ChangeLaws
pub mod Plan
pub mod Limited
