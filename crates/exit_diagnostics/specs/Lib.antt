pub mod Needless
pub mod NeedlessSteps
pub mod Exits
pub mod StopFits
pub mod Remarks
pub mod Jumps
