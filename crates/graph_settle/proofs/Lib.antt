pub mod SettlingStateLemmas
pub mod NextLemmas
pub mod MadeLemmas
pub mod EndLemmas
pub mod LeaveLemmas
