pub mod Wire
pub mod WireLaws
