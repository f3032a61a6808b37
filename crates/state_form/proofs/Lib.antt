pub mod FormLaws
