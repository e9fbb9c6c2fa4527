pub mod Meanings
pub mod Stretches
pub mod Adding
pub mod Charts
pub mod WordsText
pub mod Examples
