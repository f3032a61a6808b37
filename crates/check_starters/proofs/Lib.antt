pub mod StarterLaws
