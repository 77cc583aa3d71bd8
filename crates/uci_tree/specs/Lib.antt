-- UCI packages (OpenWrt's configuration files).

-- names of anonymous sections
pub mod Anonymous
-- texts of paths
pub mod Path
-- how paths are cut
pub mod Split
-- what a path finds in a package
pub mod Find
-- what commands make of a package, one after another
pub mod Fold
-- valid packages
pub mod Valid
-- a text as a package; its fault
pub mod Reading
-- what the reader keeps: slots of options
pub mod Slots
-- what the reader keeps: places of sections
pub mod Index
-- packages as text
pub mod Print
-- how printed packages read
pub mod Placed
-- numbers of faults
pub mod TreeError
-- the line and the reason of a fault, in words
pub mod Fault
