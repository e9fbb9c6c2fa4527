pub mod Readable
pub mod ShownBytes
