-- The counted graph below what is known of names.

-- the counted graph, in which each name is its id
pub mod Counted
-- what is kept of names, rows and ports of radios
pub mod Sound
-- how many claims names may have
pub mod Told
-- which ids' names' use changed
pub mod Uses
-- how names and their counts are kept
pub mod Inside
