mod Imports
pub mod HeadUnits
pub mod Assigning
pub mod EventOrder
pub mod RingPlaces
pub mod TurnKinds
pub mod GoingOn
pub mod Waiting
pub mod Tries
pub mod Going
pub mod Looping
pub mod Reporting
