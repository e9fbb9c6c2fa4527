pub mod Least
pub mod Proposed
pub mod Spreading
pub mod Marking
pub mod Examples
