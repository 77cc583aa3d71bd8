pub mod ChangeLemmas
pub mod KeptLemmas
pub mod ReadLemmas
pub mod FillLemmas
