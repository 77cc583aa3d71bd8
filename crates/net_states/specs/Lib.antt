-- What interfaces are, kept beside inputs, a graph and gifts.

-- what is kept of interfaces
pub mod Kept
-- what is counted over them
pub mod Counted
-- what an interface becomes
pub mod Becoming
-- what is kept before any interface claims or gives something
pub mod Load
-- the course of a settling
pub use Rattle.graph_settle.specs.SettlingState
pub use Rattle.graph_settle.specs.Leaving
-- which places claim, as its crate tells it
pub use Rattle.claim_moves.specs.Claiming
