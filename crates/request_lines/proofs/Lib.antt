-- members that are put in, items that are pushed
pub mod OptionLemmas
-- pieces that are appended one after the other
pub mod AppendLemmas
-- what is shown has no number
pub mod FloatLemmas
