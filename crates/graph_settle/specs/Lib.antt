-- What is held and what is wanted of devices and above them.

-- what is held and wanted, and the calls between
pub mod SettlingState
-- what is told of gifts by the graph below them
pub mod Leaving
