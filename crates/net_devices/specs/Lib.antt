-- The rows of network configuration files (OpenWrt's network configuration).

-- lists in which each name stands once
pub mod EachOnce
-- what sections say about names
pub mod Said
-- the names that a configuration speaks of
pub mod Names
-- which sections count
pub mod Counted
-- which names stand on which, and how high
pub mod Levels
-- the kinds of names, and the own ports of bridges
pub mod Kinds
-- what is wrong with sections
pub mod Faults
-- the rows of sections and of names
pub mod NameRows
-- the words of ports in sections of VLANs
pub mod Entries
-- the rows of VLANs of bridges
pub mod BridgeVlans
-- all of these, of a package
pub mod Devices
-- what readers keep: names each once, maps of sections and of bridges, and the rows of VLANs so far
pub mod OnceInside
pub mod Found
pub mod SaidInside
pub mod FoundNames
pub mod FoundLevels
pub mod FoundVlans
pub mod VlanTable
