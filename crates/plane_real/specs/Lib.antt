-- The real devices.

-- a disk over a folder
pub mod Folder
-- the clients of a hub over a socket
pub mod Clients
