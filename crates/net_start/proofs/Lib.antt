-- what was asked and printed, one piece after the other
pub mod RecordLemmas
-- devices that come one after the other
pub mod DeviceLemmas
-- the inputs after them
pub mod InputLemmas
-- what a settling comes to
pub mod SettlingLemmas
