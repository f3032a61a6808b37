pub mod MarkLaws
pub mod SuitLaws
