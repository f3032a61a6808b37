pub mod TypeImages
pub mod TypeImageLaws
