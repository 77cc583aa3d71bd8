-- The `uci` command's words, and what it prints.

-- options
pub mod Options
-- commands
pub mod Command
-- what the words ask for
pub mod Words
-- refusals: numbers and texts
pub mod Refusal
-- lists of values as one text
pub mod Values
-- what `show` prints
pub mod Show
-- what `get` prints
pub mod Get
-- what `changes` prints
pub mod Changes
