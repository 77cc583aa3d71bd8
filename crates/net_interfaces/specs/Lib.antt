-- The rows of `interface`, `route` and `route6` sections, and of those of radios (OpenWrt's network configuration).

-- addresses of one family
pub mod Address
-- masks
pub mod Mask
-- prefixes
pub mod Prefix
-- the texts that stand for a prefix
pub mod PrefixSpelling
-- lists of faults, and what options give
pub mod Given
-- addresses of interfaces
pub mod Addresses
-- gateways of interfaces
pub mod Gateways
-- what is wrong with interfaces
pub mod Faults
-- rows of interfaces
pub mod Interfaces
-- networks of prefixes
pub mod Network
-- places of names
pub mod Names
-- rows of routes
pub mod Routes
-- rows of radios
pub mod Radios
