pub mod MoreLemmas
pub mod RowLemmas
pub mod DecideLemmas
pub mod ListLemmas
pub mod StandLemmas
pub mod StandOnLemmas
pub mod DifferLemmas
-- wishes, as their crate tells them
pub use Rattle.graph_wishes.proofs.MayLemmas
pub use Rattle.graph_wishes.proofs.WishLemmas
