-- The object `uci` of the message bus, as OpenWrt's rpcd has it but for a few rules of our own.

-- what a call goes by
pub mod Call
-- what a call sees of packages
pub mod Sight
-- what a call comes to before anything changes
pub mod Outcome
-- what a call leaves and answers
pub mod Done
-- how refusals of a store are told
pub mod Refused
-- changes that are staged one by one
pub mod Staging
-- an apply that waits
pub mod Ending
