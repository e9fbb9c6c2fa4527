pub mod DifferLemmas
pub mod MemberLemmas
pub mod PortLemmas
