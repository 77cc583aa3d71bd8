-- what was asked and printed, one piece after the other
pub mod GrowthLemmas
-- events that are taken or refused
pub mod EventLemmas
-- what is shown has no fraction
pub mod FloatLemmas
-- what is shown, or told to be absent
pub mod ShowLemmas
-- what is told of an event
pub mod TakenLemmas
-- settlings and answers
pub mod SettleLemmas
-- events at which the kernel is asked nothing
pub mod RequestLemmas
-- lines that request one of several things
pub mod AnswerLemmas
-- packages that are loaded
pub mod LoadLemmas
