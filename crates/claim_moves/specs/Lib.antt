-- The claims of a graph beside interfaces.

-- the claims of a graph, and how they move with an interface
pub mod Claiming
