-- The plane of interfaces: what it keeps, and what each of its calls comes to.

-- what the plane keeps
pub mod Network
-- the plane, by what it follows
pub mod Seen
-- the graph that is lent
pub mod Lent
-- rows that were read
pub mod Read
-- which events are taken, and how others are told
pub mod Taken
-- how far a settling came
pub mod Settled
-- what planes come to by events and settlings
pub mod History
-- what is shown, or why nothing is
pub mod Status
-- why a call is refused
pub mod NetError
