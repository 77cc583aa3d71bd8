-- The lines of a script over all that they move.

-- a plane with its files at a moment
pub mod Ground
-- what a line does to the moment and to the files
pub mod FilesMoved
-- what a line means for the plane of interfaces
pub mod Means
-- the faults of the disks
pub mod Faults
-- what lines leave of the store and of its disks
pub mod StoreKept
-- what the code made of a line before its settling
pub mod LineDone
-- sessions that expire
pub mod Expiry
-- lines that no caller asks
pub mod Plain
-- what a line does
pub mod Does
-- the folders that a line passes through, and where it may be cut
pub mod Passed
-- what a line and a script come to
pub mod Moved
-- the folders that a script passes through
pub mod ScriptPasses
-- what a line and a script left outside
pub mod Ran
-- what lines left of the store and of its disks
pub mod Kept
-- what the code made of a line before its settling
pub mod Done
