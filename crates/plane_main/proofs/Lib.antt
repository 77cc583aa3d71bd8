pub mod WordLemmas
pub mod RunWordLemmas
pub mod DistinctLemmas
pub mod DueLemmas
pub mod StartLemmas
pub mod RunLemmas
