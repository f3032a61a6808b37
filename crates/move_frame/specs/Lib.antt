pub mod Made
pub mod Stepped
pub mod MadeLaws
pub mod StepLaws
pub mod Holding
pub mod HoldingLaws
pub mod UndoneLaws
