pub mod Queues
pub mod Leasts
pub mod Outcomes
pub mod Executions
pub mod TriedSteps
pub mod Changed
pub mod Positions
pub mod Growing
