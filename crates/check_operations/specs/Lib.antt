pub mod Directions
pub mod PermitsLaws
pub mod Meeting
pub mod MeetingLaws
