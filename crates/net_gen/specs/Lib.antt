-- A network made by number, its steps, and how a run of it ends.

-- the network of so many bridges
pub mod Packages
-- a settling of which the calls are counted
pub mod Counted
-- the steps, what each leaves, and its line
pub mod Steps
-- how a step ends before its line is written
pub mod StepEnds
-- how a run ends
pub mod Run
