pub mod Cuts
mod FirstOf
pub mod Froms
pub mod Starts
pub mod Judging
mod Telling
