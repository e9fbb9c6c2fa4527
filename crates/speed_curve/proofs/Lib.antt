mod Determined
pub mod Growing
