mod Imports
pub mod Commas
pub mod Spelled
pub mod Members
pub mod DataLines
pub mod Parts
pub mod Digits
mod LineSteps
pub mod Spelling
pub mod ByteTests
pub mod Numerals
pub mod PiecesReadBack
pub mod Operations
pub mod MarkedLines
pub mod SetTexts
pub mod Meanings
pub mod Chunks
pub mod Layouts
pub mod SourceItems
mod SectionItems
pub mod CodeLines
pub mod TaskLines
pub mod CanonicalRoundTripDataLines
pub mod TextItems
pub mod LaidOut
pub mod Resolved
pub mod Lengths
pub mod Loops
pub mod RoundTrip
