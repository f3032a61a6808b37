pub mod Answer
pub mod Tells
pub mod RowLaws
pub mod AnswerLaws
