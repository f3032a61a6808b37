pub mod Starters
