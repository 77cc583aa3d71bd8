pub mod TimesLemmas
pub mod FoldLemmas
pub mod BareLemmas
pub mod GivenLemmas
