pub mod EdgeLemmas
pub mod WellFormed
pub mod Searches
pub mod Listed
