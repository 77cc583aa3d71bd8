-- The requests of touched interfaces follow what happened.

-- what an interface needs, and what holds while asks follow
pub mod Asking
-- what is told of one request
pub mod Telling
-- what is kept of interfaces, as its crate tells it
pub use Rattle.net_states.specs.Becoming
pub use Rattle.net_states.specs.Counted
pub use Rattle.net_states.specs.Kept
pub use Rattle.net_states.specs.Load
pub use Rattle.net_states.specs.declared.states.States
-- graphs with gifts beside inputs, as their crates tell them
pub use Rattle.net_states.specs.Claiming
pub use Rattle.net_states.specs.SettlingState
pub use Rattle.net_states.specs.Leaving
