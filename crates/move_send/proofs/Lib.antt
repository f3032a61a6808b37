mod RowLaws
mod MakingLaws
