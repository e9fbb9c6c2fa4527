pub mod Order
pub mod Explained
pub mod Repairs
pub mod LeftOvers
