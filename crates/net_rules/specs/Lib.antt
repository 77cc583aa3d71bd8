-- What a network wants of the kernel, what events touch, and what interfaces claim.

-- a test of names that asks itself about other names
pub mod Levels
-- the first of several with one key
pub mod Firsts
-- all that decides what is wanted
pub mod Facts
-- what the rows say of names, interfaces and radios
pub mod Rows
-- the ports of radios
pub mod RadioPorts
-- what each name stands on
pub mod Standing
-- what every list of rows keeps
pub mod Sound
-- which names are available and have link
pub mod Available
-- which interfaces are ready and up
pub mod Interfaces
-- which names are used
pub mod Used
-- what interfaces and radios ask
pub mod Need
-- what is wanted of the kernel
pub mod Want
-- the same by the kinds of objects
pub mod Wanted
-- where VLANs lead down to
pub mod Down
-- the objects of what an interface stands on
pub mod Footprint
-- the facts of inputs
pub mod Inputs
-- what an event makes of the inputs
pub mod After
-- what is told of requests after an event
pub mod Notices
-- a moment of a network and its kernel
pub mod Moment
-- which inputs events lead to, and what a fresh start on them is
pub mod Fresh
-- which events are refused
pub mod Refusal
-- the numbers of open requests
pub mod Numbers
-- which names rows reach
pub mod Reach
-- what stands on a name, and facts that differ at a device
pub mod Above
-- the requests of touched interfaces
pub mod Touched
-- names that interfaces use, counted
pub mod Claims
-- what interfaces are by facts
pub mod States
