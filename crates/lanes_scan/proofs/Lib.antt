pub mod LaneLemmas
pub mod SearchLemmas
