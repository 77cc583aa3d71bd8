pub mod MemberLemmas
pub mod NumeralLemmas
pub mod OrderLemmas
pub mod OrderedLemmas
pub mod PatternLemmas
