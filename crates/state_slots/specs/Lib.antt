pub mod Slots
pub mod Living
pub mod SlotLaws
