pub mod BeginsLaws
pub mod LookaheadLaws
pub mod PlaceLaws
pub mod ReaderLaws
pub mod SpellingLaws
pub mod TextLaws
pub mod ViableLaws
