-- JSON as the attributes of OpenWrt's message bus, and attributes as JSON.

-- numbers of errors, and places
pub mod JsonError
-- the attributes of a JSON value
pub mod FromJson
-- the JSON value of attributes
pub mod ToJson
-- what is converted so far
pub mod Converted
