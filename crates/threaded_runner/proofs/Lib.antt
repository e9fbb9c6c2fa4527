mod Imports
pub mod Counting
pub mod Locked
pub mod Rounds
pub mod Sharing
pub mod Turning
pub mod Going
pub mod Late
pub mod HoldTurning
pub mod Filling
pub mod RoundByRound
