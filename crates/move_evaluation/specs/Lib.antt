pub mod Evaluated
pub mod Condition
pub mod ConditionLaws
pub mod Writing
pub mod WritingLaws
