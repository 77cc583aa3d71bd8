pub mod FitsLemmas
pub mod OutLemmas
pub mod OrderLemmas
