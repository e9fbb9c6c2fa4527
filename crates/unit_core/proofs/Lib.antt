pub mod StepLemmas
pub mod UnitLemmas
pub mod NextLemmas
pub mod BurstLemmas
pub mod EffectLemmas
