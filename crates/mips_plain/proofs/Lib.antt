pub mod RegionLemmas
pub mod ByteLemmas
pub mod DecodingLemmas
pub mod RunLemmas
pub mod DrivingLemmas
