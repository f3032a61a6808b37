pub mod QueueLaws
pub mod StandLaws
pub mod KeyLaws
