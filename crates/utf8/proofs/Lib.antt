pub mod FormLaws
pub mod OctetLaws
pub mod RunLaws
pub mod SecondLaws
pub mod Utf8Laws
