pub mod Ahead
pub mod Findings
pub mod Acceptance
pub mod PlaceLists
pub mod QuietEntries
mod Entries
