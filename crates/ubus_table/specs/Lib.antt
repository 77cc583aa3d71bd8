-- The message bus: what it knows, and what its events make of that.

-- clients, objects, subscriptions, registrations and open calls
pub mod Table
-- the frames that are sent
pub mod Frames
-- refusals
pub mod Refusal
-- arguments of a method
pub mod Arguments
-- PING and LOOKUP
pub mod Asked
-- subscriptions
pub mod Subscriptions
-- objects that come and go
pub mod Objects
-- calls: INVOKE, NOTIFY and their answers
pub mod Calls
-- the event object
pub mod Events
-- which way an INVOKE goes
pub mod Invoked
-- clients that come and go, and calls that local objects answer
pub mod Clients
-- one step
pub mod Served
-- whole runs, and which STATUS is sent for which INVOKE
pub mod Run
-- tables and frames without places
pub mod Places
