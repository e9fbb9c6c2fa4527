pub mod Shown
pub mod Shell
pub mod Examples
