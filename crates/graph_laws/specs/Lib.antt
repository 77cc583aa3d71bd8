-- Graphs beside the networks of their rows.

-- which names a graph knows
pub mod Knowing
-- a graph beside a network, without claims
pub mod Below
-- the links that a graph holds
pub mod Links
