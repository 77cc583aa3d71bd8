pub mod AgreeLemmas
pub mod WantLemmas
pub mod KeepLemmas
