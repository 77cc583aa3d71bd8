-- What an event leaves of the interfaces that it does not touch.

-- what stays of an interface, and what follows an event
pub mod Staying
