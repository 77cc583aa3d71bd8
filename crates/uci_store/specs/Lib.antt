-- A store of packages that holders share.

-- a store, and the two disks on which it was opened
pub mod Store
-- what is seen of packages, and why calls are refused
pub mod Refusals
-- what staging a change leaves
pub mod Staging
-- several changes of one package that are staged at once
pub mod Batch
-- an apply that waits
pub mod Waiting
-- what a stop within a call leaves of the files
pub mod Stops
-- what a commit leaves
pub mod Committing
-- what an apply leaves
pub mod Applying
-- why a store is not opened
pub mod Opening
-- numbers of errors
pub mod StoreError
