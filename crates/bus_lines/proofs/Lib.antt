-- random words that are used up
pub mod WordLemmas
-- a store on its disks
pub mod KeptLemmas
-- what the kernel was asked
pub mod KernelLemmas
-- the session of a call
pub mod AdmitLemmas
-- a call with the next random word
pub mod CallingLemmas
-- lines of calls
pub mod CallLineLemmas
-- calls that are handed out, and frames
pub mod FrameLemmas
-- frames one after the other
pub mod FramesLemmas
-- what is told of lines of clients
pub mod ToldLemmas
-- lines of clients
pub mod ClientLemmas
