pub mod Spelling
pub mod Grammar
pub mod Reader
pub mod Meaning
pub mod TypeRows
pub mod Sizes
pub mod TextExamples
