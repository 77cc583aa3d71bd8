-- What calls of the object `uci` ask for, need and answer, as OpenWrt's rpcd has them but for a few rules of our own.

-- the methods by name
pub mod Method
-- statuses of refused calls
pub mod Status
-- the arguments of a method
pub mod Arguments
-- the grants that a call needs, and which it has
pub mod Grants
-- values in byte order of their names
pub mod ByName
-- what is told of a package
pub mod Told
-- what is told of staged changes
pub mod Changes
-- deltas that a call is to stage
pub mod Plan
-- what each method stages
pub mod Edits
