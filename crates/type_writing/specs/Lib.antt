pub mod Answer
pub mod SizeLaws
pub mod Sums
pub mod AnswerLaws
pub mod ParsedLaws
pub mod Passes
pub mod PassLaws
pub mod TextPassLaws
