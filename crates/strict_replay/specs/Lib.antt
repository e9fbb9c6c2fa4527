pub mod StrictScript
pub mod StrictReplay
