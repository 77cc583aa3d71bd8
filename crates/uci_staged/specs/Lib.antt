-- Changes of UCI packages that holders have staged (OpenWrt's uci), and the disk of those of the command line.

-- which deltas lie under a path
pub mod Under
-- changes of holders, and which of them a call drops
pub mod Change
-- the disk on which the command line's own are kept
pub mod Kept
-- numbers of errors, and why calls are refused
pub mod StagedError
-- how staged changes are read
pub mod Opening
