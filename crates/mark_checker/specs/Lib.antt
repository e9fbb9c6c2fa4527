pub mod Numbers
pub mod Rules
pub mod Places
pub mod CheckerSteps
pub mod Looks
pub mod Examples
