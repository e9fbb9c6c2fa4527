mod Capped
mod Cuts
mod Positions
pub mod Steps
mod Newlines
mod SpanSteps
