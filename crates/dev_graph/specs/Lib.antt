-- The graph of network devices.

-- how a graph is kept
pub mod Inside
-- one more plain name
pub mod Added
