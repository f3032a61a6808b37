pub mod Readers
pub mod RowSyntax
pub mod RowSyntaxLaws
