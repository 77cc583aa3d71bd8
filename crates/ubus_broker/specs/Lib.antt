-- The message bus, and runs of its calls.

-- what a bus knows, and what a step did
pub mod Did
-- the numbers of errors
pub mod BrokerError
-- calls of a broker, one after another
pub mod Ran
