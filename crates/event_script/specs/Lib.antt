pub mod EventScript
pub mod ScriptText
pub mod FaultText
pub mod NameKeys
pub mod Examples
