pub mod SettleLemmas
pub mod EndLemmas
