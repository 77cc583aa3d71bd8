-- Packages on a disk that may stop at any moment, written whole or not at all, and undone where
-- nobody confirms them.

-- the body that keeps old files, and its first wrong place
pub mod Body
-- the text of a body
pub mod BodyText
-- a body as a grammar: what bytes spell, and where they are wrong first
pub mod Grammar
-- what a disk gives when it is opened, and what a state is to give
pub mod Opened
-- when a disk has no reading, by the grammar
pub mod Unread
-- what a run of calls leaves of a disk
pub mod Images
-- layouts of a disk, and phases of calls
pub mod Phase
-- an object and the disk on which it was opened
pub mod Open
-- when the calls of an object are refused
pub mod Refusals
-- what opening a disk gives, and when it is refused
pub mod Opening
-- numbers of errors
pub mod SnapError
