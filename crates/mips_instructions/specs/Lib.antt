pub mod Words
pub mod InstructionTable
pub mod Instruction
pub mod Spare
