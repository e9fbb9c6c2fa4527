pub mod Queries
pub mod Shown
pub mod Witnesses
pub mod Visits
pub mod Costly
pub mod Candidates
pub mod Steps
pub mod Examples
