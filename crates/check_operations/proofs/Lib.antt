pub mod OperationLaws
pub mod MeetingLaws
