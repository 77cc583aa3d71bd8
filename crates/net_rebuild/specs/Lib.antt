-- Rows that are loaded, and ports of radios: what is kept of a network is made anew.

-- what is made anew
pub mod Rebuild
-- room for what one interface may come to give
pub mod Room
-- plain names that join a graph
pub mod Joined
-- what a load leaves
pub mod Begun
-- what is followed, as its crate tells it
pub use Rattle.net_follow.specs.Counted
pub use Rattle.net_follow.specs.InStep
pub use Rattle.net_follow.specs.Kept
pub use Rattle.net_follow.specs.declared.follower.Follower
-- graphs with gifts beside inputs, as their crates tell them
pub use Rattle.graph_laws.specs.Knowing
pub use Rattle.net_follow.specs.Beside
pub use Rattle.net_follow.specs.Claiming
pub use Rattle.net_follow.specs.SettlingState
