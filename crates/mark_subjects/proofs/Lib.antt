pub mod PathSteps
pub mod Paths
