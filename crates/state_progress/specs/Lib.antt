pub mod Meaning
pub mod Stored
pub mod StateLaws
