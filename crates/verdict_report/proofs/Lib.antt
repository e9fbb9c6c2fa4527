mod Addresses
mod CurveLemmas
mod Plays
pub mod BeginsLemmas
pub mod Told
