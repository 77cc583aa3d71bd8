-- The view of a network's inputs, as the program keeps it.

-- places of names in a list
pub mod Places
-- the places of all that inputs have by name
pub mod Index
-- sets of names
pub mod Names
-- the ports of radios
pub mod RadioPorts
-- what is told of names, level by level
pub mod Levels
