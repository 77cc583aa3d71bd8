pub mod ViewLemmas
pub mod UserLemmas
pub mod GroupLemmas
