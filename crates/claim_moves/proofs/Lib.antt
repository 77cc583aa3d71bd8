pub mod NamedLemmas
pub mod ClaimLemmas
pub mod ForgetLemmas
