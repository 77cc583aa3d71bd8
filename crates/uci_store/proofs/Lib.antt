pub mod StoreLemmas
pub mod StopLemmas
pub mod CommitLemmas
pub mod StageLemmas
pub mod ApplyLemmas
pub mod DiskLemmas
pub mod BatchLemmas
