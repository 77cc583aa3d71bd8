-- Bringing a network up from nothing.

-- the inputs that named devices and a package make, what they want, the calls to it, and the lines of the requests
pub mod Inputs
-- devices that come one after the other
pub mod Devices
-- how a settling ends that tells of requests behind its calls
pub mod Settling
-- how bringing a network up ends
pub mod BringUp
