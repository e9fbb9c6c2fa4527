pub mod Shown
pub mod Rounds
pub mod Driven
pub mod Found
pub mod Laws
pub mod LastWriter
pub mod DemonstrateText
