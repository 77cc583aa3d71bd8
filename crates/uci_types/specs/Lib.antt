-- Datatypes of options.

-- numbers as values and as bounds
pub mod Number
-- texts of addresses and prefixes
pub mod Address
-- the values of a datatype
pub mod Values
-- which options of a package break which rule
pub mod Faults
