pub mod Told
pub mod LexemeLaws
pub mod ItemLaws
