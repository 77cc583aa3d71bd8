-- The objects that are held and wanted on devices, each at its key.

-- keys of objects
pub mod Keys
-- sets with one object of each key
pub mod Steady
-- slots by key, and the sets on their two sides
pub mod Slots
-- what a look-up by a key finds
pub mod Lookup
-- links of names
pub mod Links
-- wishes that are judged where one of some ids decides them
pub mod Decided
-- slots that are written
pub mod Changed
-- slots and wishes with one more
pub mod Grown
-- what is held, and what may be wanted
pub mod Marks
-- which slots an id decides
pub mod Deciders
-- objects on one side alone
pub mod Alone
-- sets of numbers as the bits of words
pub mod Bits
-- the first of the takes, and the first of the puts
pub mod Turns
-- the place of a call among others
pub mod Places
-- slots that are marked
pub mod Marked
-- what is due in the order of its calls
pub mod Ordered
-- how slots are kept
pub mod Inside
