pub mod Words
pub mod Marks
pub mod Beginnings
pub mod Lists
pub mod Rest
