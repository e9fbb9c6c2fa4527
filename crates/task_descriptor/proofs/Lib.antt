pub mod RegisterTests
pub mod NameText
pub mod SameLists
pub mod Duplicates
