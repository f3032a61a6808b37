pub mod Looking
pub mod Firmness
pub mod Assigning
pub mod Growing
pub mod Placing
pub mod Comparing
pub mod Uniting
pub mod Entries
