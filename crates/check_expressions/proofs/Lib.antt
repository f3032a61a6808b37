pub mod SmallLaws
pub mod TableLaws
pub mod TypingLaws
pub mod TypingsLaws
