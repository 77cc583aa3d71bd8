-- What a graph of devices knows, what it answers, and what its calls make of it.

-- names with their devices and claims, rows, ports of radios, and what is held
pub mod State
-- which names are available, have link and are used
pub mod Answers
-- what is wanted of the kernel on these devices
pub mod Wanted
-- the calls between what is held and what is wanted
pub mod Calls
-- what events, loads and calls of the kernel make of it
pub mod After
-- what its calls ask of their arguments
pub mod Conditions
-- the edges at names that changed
pub mod Edges
-- a graph beside the facts of a network
pub mod Agreeing
