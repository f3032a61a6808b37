pub mod Range
pub mod RangeLaws
