-- The answers of handlers as JSON.

-- members that may be absent, and items of arrays
pub mod Members
-- an interface's answer
pub mod AnswerJson
-- a radio's ports
pub mod PortsJson
