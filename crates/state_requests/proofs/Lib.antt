pub mod ListLemmas
pub mod RowLemmas
pub mod CountLemmas
pub mod KeptLemmas
pub mod LostLemmas
pub mod OpenedLemmas
pub mod StepLemmas
pub mod LosingLemmas
pub mod OpeningLemmas
-- what is kept of interfaces, as its crate tells it
pub use Rattle.net_states.proofs.BecomeLemmas
pub use Rattle.net_states.proofs.CountLemmas as StateCountLemmas
pub use Rattle.net_states.proofs.PlaceLemmas
