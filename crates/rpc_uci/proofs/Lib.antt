pub mod PlanLemmas
pub mod SightLemmas
pub mod StagingLemmas
pub mod EndingLemmas
pub mod GrantLemmas
pub mod ServeLemmas
pub mod AnswerLemmas
pub mod StateLemmas
