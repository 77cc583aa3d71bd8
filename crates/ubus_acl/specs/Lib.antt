-- Access lists of OpenWrt's message bus.

-- numbers of errors
pub mod AclError
-- what a record allows, and to whom
pub mod Record
-- what a client may do
pub mod Acl
-- which texts are access lists
pub mod Form
