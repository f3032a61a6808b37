pub mod Ranged
pub mod WordLaws
pub mod LevelLaws
pub mod RowLaws
pub mod MeaningLaws
pub mod TextRows
pub mod OctetLaws
