pub mod OrderLemmas
pub mod NeededLemmas
pub mod AskedLemmas
pub mod NumberSetLemmas
pub mod NoticeLemmas
