pub mod ItemSteps
pub mod Runs
pub mod TableRows
pub mod Knowns
mod LineSteps
mod Fitting
mod SpanEnds
pub mod Targets
