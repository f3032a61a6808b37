pub mod Tables
pub mod Readings
pub mod ReadingLaws
pub mod TableLaws
pub mod PieceLaws
pub mod WordLaws
