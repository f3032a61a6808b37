pub mod Session
pub mod Queue
pub mod Places
pub mod Bytes
pub mod RowShape
pub mod Form
pub mod Shape
