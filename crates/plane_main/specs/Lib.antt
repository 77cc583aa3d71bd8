-- What the program does, from the outside in.

-- how a run ends, and when: by cases on its command
pub mod Run
-- what a run sees of the input and the error output
pub mod Outside
-- which words ask for which command
pub mod Command
-- the words of `run`
pub mod RunWords
-- how a run of a script ends, and when
pub mod Script
-- where the real devices of a command are
pub mod Locations
-- endings: status and text, kinds of endings
pub mod Ending
-- how a run of `start` ends, and when
pub mod Start
-- how a run of `uci` ends, and when
pub mod Uci
-- how a run of `gen` ends, and when
pub mod Generated
-- the pages of the program, and how a run ends that prints one
pub mod Page
