pub mod Encode
pub mod Decode
pub mod Ids
pub mod IdsLaws
pub mod Standing
pub mod EncodeLaws
pub mod StandingLaws
pub mod DecodeLaws
