-- The rest of the outside: clients, clocks and random words.

-- numbers that a device gives, one a call
pub mod Given
-- what a hub of clients gives and takes
pub mod Hub
-- a hub in memory
pub mod MemHub
-- a clock in memory
pub mod SetClock
-- words of 64 bits from a generator of words of 32 bits
pub mod Words
-- what a source of random words gives from now on
pub mod Supply
