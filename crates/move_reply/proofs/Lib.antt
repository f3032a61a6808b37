mod RowLaws
mod MessageLaws
mod AnswerLaws
