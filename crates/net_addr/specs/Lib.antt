-- What the contracts of this crate speak of, from the numbers of an address to the texts of a
-- prefix.

-- bytes by name
pub mod Byte
-- numbers of 8 bits
pub mod Octets
-- how long an address is
pub mod Width
-- what a contract sees of a prefix
pub mod CidrModel
-- the texts of an address
pub mod Spelling
-- the texts of a prefix
pub mod CidrSpelling
-- the one text in which each is printed
pub mod Printed
-- the zero groups that `::` stands for
pub mod ZeroRun
-- the bytes of printed texts
pub mod Alphabet
-- a text in a buffer
pub mod Appended
-- masks of prefixes
pub mod Mask
-- networks of prefixes
pub mod Network
-- numbers of errors
pub mod ErrorNumber
