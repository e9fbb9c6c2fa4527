pub mod CutLemmas
pub mod Splits
pub mod PartLemmas
