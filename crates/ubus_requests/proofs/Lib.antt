pub mod PlanLemmas
pub mod AskedLemmas
pub mod OpenedLemmas
pub mod AnswerLemmas
pub mod WayLemmas
