pub mod Reasons
pub mod Waits
pub mod Steps
pub mod Counts
pub mod Signals
pub mod Examples
