pub mod StatusLemmas
pub mod SortLemmas
mod Examples
