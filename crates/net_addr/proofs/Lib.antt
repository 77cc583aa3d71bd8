pub mod OctetLemmas
pub mod SpellingLemmas
pub mod MaskLemmas
pub mod AppendedLemmas
pub mod GroupLemmas
pub mod PrintedLemmas
pub mod CidrLemmas
pub mod NetworkLemmas
