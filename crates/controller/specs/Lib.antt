pub mod Parts
pub mod LeavesLaws
pub mod Promises
pub mod RequestPromises
