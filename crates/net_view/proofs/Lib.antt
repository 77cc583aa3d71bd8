pub mod PlaceLemmas
pub mod PortLemmas
pub mod LevelLemmas
pub mod NameLemmas
pub mod JoinLemmas
