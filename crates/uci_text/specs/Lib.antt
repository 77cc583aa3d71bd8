-- UCI text (OpenWrt's UCI file syntax), from bytes to commands.

-- the bytes that mean something, by name
pub mod Byte
-- classes of bytes, numbers of lines
pub mod ByteClass
-- pieces of words: plain, escaped, in quotes
pub mod Piece
-- words, and white space before them
pub mod Word
-- gaps: white space, separators and comments
pub mod Gap
-- a command and its extent
pub mod Command
-- commands that do not end; the extents of all commands of a text
pub mod Open
-- a text as lines of words
pub mod Text
-- the first fault of a text
pub mod FirstFault
-- what the reader finds in front of a rest
pub mod Found
-- the table of commands, a command of a line, the fault of its words
pub mod Table
-- a text as commands, its first fault of all
pub mod Commands
-- how a value is quoted
pub mod Quote
-- numbers of faults
pub mod TextError
