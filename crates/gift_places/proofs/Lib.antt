pub mod MoreLemmas
pub mod HeldLemmas
pub mod LawLemmas
