pub mod Files
pub mod Refusals
pub mod Rights
pub mod Writing
pub mod Examples
