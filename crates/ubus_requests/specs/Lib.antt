-- What a message comes to.

-- a plan for a step
pub mod Plan
