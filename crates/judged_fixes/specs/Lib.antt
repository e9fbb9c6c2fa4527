pub mod Mended
pub mod Proposed
pub mod Right
pub mod Fixed
pub mod Further
