-- Logins of the message bus: groups of grants, and stored passwords.

-- stored passwords
pub mod Password
-- how they are taken apart
pub mod Stored
-- numbers of errors of groups
pub mod GroupError
-- which texts are groups
pub mod Form
