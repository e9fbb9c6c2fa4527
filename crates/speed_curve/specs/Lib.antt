pub mod Curve
pub mod Laws
pub mod Numbers
