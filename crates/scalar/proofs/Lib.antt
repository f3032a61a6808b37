pub mod Doubles
pub mod Same
pub mod Operating
pub mod Reading
pub mod ByScalar
