-- a settling that goes on call by call
pub mod CountLemmas
-- steps one after the other
pub mod StepLemmas
-- a run of all steps
pub mod RunLemmas
-- what is due without rows
pub mod HeldLemmas
-- the sections of a network
pub mod PackageLemmas
-- what the checker computes
pub mod Examples
