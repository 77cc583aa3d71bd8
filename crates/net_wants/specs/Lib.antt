-- What is used, as the program keeps it, and what is wanted for an interface.

-- what is used
pub mod View
-- the rows that belong to a name
pub mod Grouped
-- what is added for an interface that is up
pub mod Given
