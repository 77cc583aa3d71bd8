pub mod WordLemmas
pub mod Examples
pub mod TextExamples
pub mod ShowLemmas
pub mod ValueLemmas
