pub mod NamedLaws
pub mod Answers
pub mod SessionLaws
