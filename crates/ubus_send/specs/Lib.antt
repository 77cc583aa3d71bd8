-- Frames that the message bus sends.

-- which frames fit, as a test
pub mod Fits
-- frames by their paths
pub mod Frames
-- frames as they go out
pub mod Out
