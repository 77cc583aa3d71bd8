-- The addresses and routes that are given, each with how often, and whether it is held.

-- gifts, and the objects that are held and given by them
pub mod Gifts
-- what a step makes of the gifts
pub mod Changes
-- the gift that is taken first, and the one that is put first
pub mod First
-- how much of a gift is left to do
pub mod Due
-- which of two calls of gifts comes sooner, as the program goes over them
pub mod Turns
-- what comes of gifts, in the order of its calls
pub mod Ordered
-- places of gifts of which something may come
pub mod Places
-- keys of gifts
pub mod Keys
-- how gifts are kept
pub mod Inside
