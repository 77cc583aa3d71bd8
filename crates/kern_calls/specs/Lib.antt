-- The calls between two sets of objects.

-- the calls as a list that computes
pub mod Calls
-- what the calls leave alone, and what loses its link with a link that is taken
pub mod Kept
-- the calls of one object
pub mod Counted
-- the objects below addresses and routes
pub mod Lower
-- how much is left to do
pub mod Due
-- by which number calls of one rank are ordered
pub mod Between
-- which objects these are, and the calls of them
pub mod Upper
