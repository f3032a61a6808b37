pub mod Parts
pub mod Sets
pub mod SetsLaws
