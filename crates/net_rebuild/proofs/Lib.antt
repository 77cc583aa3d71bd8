pub mod LookLemmas
pub mod IdleLemmas
pub mod BeginLemmas
pub mod LoadLemmas
pub mod NameLemmas
pub mod RadioLemmas
pub mod GiftLemmas
pub mod RebuildLemmas
-- graphs with gifts beside inputs, as their crates tell them
pub use Rattle.graph_laws.proofs.LoadLemmas as GraphLoadLemmas
pub use Rattle.graph_laws.proofs.LowerLemmas
pub use Rattle.load_parts.proofs.FurtherLemmas
pub use Rattle.net_follow.proofs.CountedLemmas
pub use Rattle.net_follow.proofs.SettlingStateLemmas
pub use Rattle.net_follow.proofs.LentLemmas
