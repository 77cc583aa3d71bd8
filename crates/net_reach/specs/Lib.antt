-- What reaches what, by name.

-- places, each once, and the places of items that a test tells
pub mod Places
-- how places are kept
pub mod PlaceInside
-- lists of places by name
pub mod Groups
-- places where one is gone
pub mod Gone
-- the walk up from a name
pub mod Walk
-- what reaches what
pub mod Reach
-- inputs in which other layer-3 devices are told
pub mod L3Devices
