pub mod EventLemmas
pub mod ShowLemmas
pub mod CallLemmas
