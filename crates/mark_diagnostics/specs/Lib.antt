pub mod Told
pub mod Errors
pub mod Together
pub mod Fixes
pub mod Warnings
pub mod Examples
