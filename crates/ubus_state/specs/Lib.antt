-- What the message bus knows, and what changes it.

-- the event object and the local objects
pub mod Own
-- open calls
pub mod Calls
-- rows of objects that left
pub mod Among
-- rows by rising number
pub mod Rising
-- pairs of numbers
pub mod Pairs
-- how subscriptions are kept
pub mod SubscriptionRows
-- objects by path
pub mod Paths
-- the code's state as the table of the definitions
pub mod State
-- what a message changes
pub mod Change
-- objects that leave one after another
pub mod Leaving
