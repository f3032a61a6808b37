pub mod FileChecker
pub mod FileCheckerLaws
pub mod OutputLaws
pub mod KeyLaws
