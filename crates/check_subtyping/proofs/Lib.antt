pub mod OwnLaws
pub mod SubtypeLaws
