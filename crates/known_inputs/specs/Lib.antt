-- The inputs of a network with room, changed in their place.

-- inputs and their room, and what stands once in them
pub mod Known
-- what a step makes of inputs
pub mod Steps
-- what stands at a place of a list
pub mod Places
-- how inputs are kept
pub mod Inside
