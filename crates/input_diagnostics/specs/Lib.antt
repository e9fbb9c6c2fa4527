pub mod Advice
pub mod CertificateErrors
pub mod MistakenTexts
pub mod ScriptErrors
