pub mod ValueLaws
pub mod EvaluationLaws
pub mod WritingLaws
