-- JSON texts that are read
pub mod JsonLemmas
-- lines of the plane of interfaces
pub mod ActLemmas
-- a store on its disks
pub mod StoreLemmas
-- the moment of a script
pub mod TimeLemmas
-- commands of `uci` as lines
pub mod CommandLemmas
-- all of these as lines of a script
pub mod LiftLemmas
-- the folders that a line passes through
pub mod PassLemmas
-- random words
pub mod WordLemmas
-- sessions that expire
pub mod ExpiryLemmas
-- a store on its disks
pub mod StepStoreLemmas
-- the folders that lines and scripts pass through
pub mod StepPassLemmas
-- what lines did, as lines of a script
pub mod StepLiftLemmas
-- lines that are carried out
pub mod LineLemmas
-- scripts that are carried out
pub mod ScriptLemmas
-- what is read from JSON
pub mod ReadingLemmas
-- what lines mean
pub mod MeaningLemmas
-- what lines do
pub mod LawLineLemmas
-- what scripts come to
pub mod LawScriptLemmas
