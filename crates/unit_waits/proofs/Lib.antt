pub mod InOrder
pub mod Walking
pub mod Applying
pub mod Stepping
pub mod Counting
pub mod Masks
pub mod SomeSteps
