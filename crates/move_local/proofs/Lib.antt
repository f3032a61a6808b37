mod MarkLaws
mod RowLaws
mod ValueLaws
