pub mod Image
pub mod TypeRows
pub mod Tells
pub mod TellsLaws
pub mod ImageLaws
pub mod TypeRowsLaws
