-- One run of a script over a folder and a plane of interfaces.

-- exit statuses
pub mod RunEnd
-- the opening: rows, calls and asks
pub mod Opening
-- the script
pub mod Script
-- how a run ends
pub mod Run
-- when a run ends so
pub mod Comes
-- what a stop leaves of the files
pub mod Stops
-- how the parts of a run answer
pub mod Parts
