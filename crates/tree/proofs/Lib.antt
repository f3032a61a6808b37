pub mod Scanning
pub mod Deciding
pub mod Walking
pub mod Skipping
