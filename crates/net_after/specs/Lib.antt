-- What an event makes of inputs, as the program computes it.

-- options by their names
pub mod ByName
-- numbers in a set
pub mod NumberSet
