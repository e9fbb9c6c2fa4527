pub mod Edges
pub mod Soundness
pub mod Neighbours
pub mod Members
pub mod SearchSteps
pub mod Examples
