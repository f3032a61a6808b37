pub mod Marks
pub mod Allowed
pub mod Parts
pub mod PartLaws
pub mod ProgressLaws
