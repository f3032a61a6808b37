pub mod DoneLaws
pub mod ReachLaws
