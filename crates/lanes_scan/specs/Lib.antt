-- Scans of bytes by vector lanes.

-- the tests of bytes of which the scans tell
pub mod ByteTest
