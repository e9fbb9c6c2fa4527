pub mod InSteps
pub mod Joining
