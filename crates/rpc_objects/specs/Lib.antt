-- Calls of the local objects: what they do and answer.

-- statuses, payloads and denials
pub mod LocalAnswer
-- calls of the object `session`
pub mod SessionCall
-- calls of the object `uci`
pub mod UciAnswer
-- the objects, by their paths and by their numbers
pub mod Object
-- what a call comes to
pub mod Calls
-- the folders that a call passes through
pub mod Passed
-- what a call that was stopped had done
pub mod Cut
-- the store and its disks behind a call
pub mod Kept
-- what the code made of a call
pub mod Ended
-- what is told of a call
pub mod Outcome
-- what the code made of a call of the object `uci`
pub mod UciCall
