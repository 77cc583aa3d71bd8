-- Calls of the network's objects: what they ask for, do and answer.

-- the objects and their methods
pub mod Method
-- single arguments
pub mod Arguments
-- what happens to a device, by its arguments
pub mod DeviceEvent
-- what a call asks for
pub mod Asked
-- how a call is read
pub mod Reading
-- what a call comes to
pub mod Answered
-- what the code made of it
pub mod Told
-- what a call means, and what comes of it
pub mod NetCalls
