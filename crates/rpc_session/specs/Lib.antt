-- Sessions of the message bus, and patterns of their grants.

-- numbers of denials
pub mod Denied
-- numbers of errors
pub mod SessionError
-- what a grant permits
pub mod Grant
-- one session
pub mod Session
-- all sessions, as data
pub mod SessionList
-- all sessions, and what each call makes of them
pub mod Sessions
-- the arguments of a method
pub mod Arguments
-- pairs of an object and a function
pub mod Objects
-- what a user keeps in a session
pub mod Values
-- values by their names, as the program keeps them
pub mod ByName
-- how a session is told
pub mod Description
-- the methods by name
pub mod Method
-- what a call answers and leaves
pub mod Serve
-- how a pattern goes on behind its first star
pub mod Pattern
