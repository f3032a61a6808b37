pub mod Naming
pub mod Building
