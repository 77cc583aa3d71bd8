-- Lines of scripts, and the texts of errors and statuses.

-- what the words of a line ask for
pub mod Lines
-- numbers, names and bytes among the words
pub mod Arguments
-- the statuses of calls
pub mod CallStatus
-- the numbers and the words of errors
pub mod LineError
-- the whole line
pub mod ErrorLine
