pub mod Choice
pub mod TestLaws
pub mod TableLaws
pub mod ListLaws
