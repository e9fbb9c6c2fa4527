pub mod Held
pub mod Ports
pub mod Examples
