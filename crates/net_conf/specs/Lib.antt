-- The rows of a network configuration, read from two packages (OpenWrt's network configuration).

-- all rows
pub mod Conf
-- the limits of lists
pub mod Limits
