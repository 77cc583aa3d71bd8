-- What an interface is, told over a graph of devices.

-- what a look is of
pub mod Look
-- the ports that radios tell for an interface
pub mod Ports
-- what an interface gives, counted once more or once less
pub mod Giving
