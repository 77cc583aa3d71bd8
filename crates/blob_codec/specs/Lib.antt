-- Blobs, the attribute lists of OpenWrt's message bus (libubox's blobmsg).

-- numbers of errors
pub mod BlobError
-- the fields of an attribute
pub mod Attribute
-- which bytes spell a list of attributes
pub mod Blob
-- the first fault of bytes
pub mod Fault
-- what the reader finds
pub mod Found
-- the text that JSON gives bytes
pub mod AsText
-- the one spelling with zero padding
pub mod Written
-- which attributes have a spelling
pub mod Limits
-- what the writer is given and leaves
pub mod Writing
