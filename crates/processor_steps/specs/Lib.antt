pub mod Processors
pub mod Choices
pub mod CallParts
pub mod LeastRegisters
pub mod Examples
