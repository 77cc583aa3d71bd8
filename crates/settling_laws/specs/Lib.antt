-- Graphs with gifts above them beside the inputs of a network.

-- what interfaces give, and how often
pub mod Given
-- a graph and gifts beside inputs
pub mod Beside
