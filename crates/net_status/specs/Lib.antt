-- What is shown of interfaces, devices and radios, as JSON.

-- JSON values of texts and numbers
pub mod Values
-- what faults are called
pub mod Faults
-- the addresses and routes of an interface
pub mod Given
-- an interface, and all of them
pub mod Interfaces
-- its members, one after the other
pub mod Members
-- a device
pub mod Devices
-- a radio
pub mod Radios
