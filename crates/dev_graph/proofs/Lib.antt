pub mod WantLemmas
pub mod TakeLemmas
pub mod GraphLemmas
pub mod AddLemmas
pub mod KeptLemmas
pub mod PlainLemmas
-- decisions over tables
pub use Rattle.graph_tables.proofs.DecideLemmas
