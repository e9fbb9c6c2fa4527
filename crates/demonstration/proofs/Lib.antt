mod Imports
pub mod PlainReads
pub mod SeenReads
pub mod ShownReads
pub mod Judging
pub mod Rounding
pub mod MoreUnits
pub mod Driving
pub mod Harmless
pub mod Searching
pub mod Writing
