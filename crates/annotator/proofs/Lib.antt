mod Imports
pub mod Sources
pub mod Widening
pub mod Spread
pub mod LeastMasks
pub mod Decides
pub mod MarkLemmas
pub mod Remarked
