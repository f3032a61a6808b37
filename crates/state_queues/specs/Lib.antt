pub mod Queue
pub mod ReadLaws
pub mod ChangeLaws
