pub mod NamedLaws
pub mod TargetLaws
