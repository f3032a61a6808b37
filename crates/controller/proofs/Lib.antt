mod CallLaws
mod PartLaws
