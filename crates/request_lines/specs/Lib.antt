-- The lines that tell of requests.

-- options and radios as JSON
pub mod OptionData
-- the line of a notice
pub mod RequestLine
