-- A network that is followed event by event.

-- what is kept, in step with the inputs
pub mod InStep
-- room for what an answer brings
pub mod Answering
-- what is ready for something that happens to a device
pub mod Awaiting
-- what is kept of interfaces, as its crate tells it
pub use Rattle.state_requests.specs.Counted
pub use Rattle.state_requests.specs.Kept
pub use Rattle.state_requests.specs.Load
pub use Rattle.state_requests.specs.States
-- graphs with gifts beside inputs, as their crates tell them
pub use Rattle.settling_laws.specs.Beside
pub use Rattle.state_requests.specs.Claiming
pub use Rattle.state_requests.specs.SettlingState
pub use Rattle.state_requests.specs.Leaving
