pub mod CutLemmas
pub mod DottedLemmas
pub mod NumberLemmas
pub mod WordLemmas
