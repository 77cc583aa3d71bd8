pub mod NameLemmas
pub mod KeptLemmas
