pub mod GivingLemmas
pub mod LookLemmas
pub mod PortLemmas
