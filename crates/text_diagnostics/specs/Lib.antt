pub mod Mending
pub mod Refusals
