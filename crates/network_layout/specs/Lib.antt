pub mod LeastFacts
pub mod Loops
