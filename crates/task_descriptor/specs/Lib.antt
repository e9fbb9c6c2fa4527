pub mod Names
pub mod NameFacts
pub mod Listing
pub mod WellFormed
pub mod BuildFaultText
pub mod Examples
