-- A kernel in memory.

-- the held objects and the present devices, in tables
pub mod Tables
-- a list that is kept or not
pub mod Log
-- a kernel in memory
pub mod MemKernel
