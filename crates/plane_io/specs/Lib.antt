-- The outside as the plane sees it.

-- what reading a source to its end gives
pub mod Source
-- the numbers of refusals of an input
pub mod InputError
-- a source in memory
pub mod MemSource
-- a sink in memory
pub mod MemSink
