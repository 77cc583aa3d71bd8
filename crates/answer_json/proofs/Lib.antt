-- members that are there, or absent
pub mod MemberLemmas
-- items of arrays, one after the other
pub mod ItemLemmas
