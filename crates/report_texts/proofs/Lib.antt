mod Kept
mod PlainRuns
