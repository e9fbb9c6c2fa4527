pub mod Subjects
pub mod Parts
pub mod Targets
pub mod Steps
