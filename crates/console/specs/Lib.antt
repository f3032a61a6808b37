pub mod Console
