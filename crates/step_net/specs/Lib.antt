-- A line of a script on the plane of interfaces.

-- what a line asks of the plane
pub mod NetLine
-- what it does before it is settled
pub mod Acted
-- what is seen outside
pub mod Effects
-- its settling and its answer
pub mod Moved
-- what is to be told of it
pub mod Told
-- what the code made of it
pub mod Taken
-- what a settling and an answer left outside
pub mod Finished
-- what is loaded of the files
pub mod Loaded
-- what a reload asks of the plane
pub mod Reload
-- what the code made of it
pub mod ReloadTaken
