pub mod CanonicalText
pub mod Examples
pub mod FaultText
pub mod MarkedText
pub mod MarksInTextExamples
pub mod Ranges
