pub mod Emits
pub mod EmitsLaws
