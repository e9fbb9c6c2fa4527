pub mod Steps
pub mod Ranges
pub mod Operands
pub mod Rows
pub mod Statements
pub mod Examples
