pub mod Lines
pub mod Numbers
pub mod Registers
pub mod Grammar
pub mod Spans
pub mod Faults
pub mod Examples
