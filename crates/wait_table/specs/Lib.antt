pub mod Order
pub mod Kinds
pub mod Table
