pub mod Part
pub mod Span
pub mod SpanLaws
pub mod Located
