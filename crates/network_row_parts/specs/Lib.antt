pub mod Parts
pub mod PartLaws
pub mod Behaviours
pub mod KindLaws
pub mod PathLaws
pub mod RowSets
pub mod RowSetLaws
