pub mod Reopening
pub mod ReopeningLaws
