-- The clients of a script.

-- clients by their numbers
pub mod Clients
-- what a client has sent
pub mod Fed
-- the lines that tell what clients are sent
pub mod Sends
-- a message bus with the clients of a script
pub mod Bus
