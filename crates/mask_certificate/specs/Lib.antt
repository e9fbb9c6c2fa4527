pub mod Lists
pub mod CertificateText
pub mod CertificateReading
pub mod Blocks
pub mod FaultText
pub mod Examples
pub mod Left
