-- Rows of a network configuration, and what options give.

-- options by their names
pub mod Options
-- an option that is absent, does not read, or has a value
pub mod Stated
-- texts cut at a byte
pub mod Cut
-- words between spaces
pub mod Words
-- truth values
pub mod Truth
-- decimals
pub mod Number
-- hardware addresses
pub mod HardwareAddress
-- names of the form X.N
pub mod Dotted
-- numbers of errors
pub mod ConfError
