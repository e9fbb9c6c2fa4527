pub mod Fronts
pub mod SetBits
