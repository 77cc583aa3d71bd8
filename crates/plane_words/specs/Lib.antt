-- The words that every crate cites.

-- a count rose, did not rise; a failure has its cause
pub mod Causes
-- lists in which no item stands twice
pub mod Distinct
-- a sink or a log grew, a source gave
pub mod Growth
-- the one list of a set in an order
pub mod InOrder
-- numbers as decimal and hexadecimal text
pub mod Numeral
-- patterns of names with `*` and `?`
pub mod Pattern
