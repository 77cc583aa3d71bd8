-- scripts that are read, and packages that are loaded
pub mod ReadLemmas
-- the opening of the plane
pub mod OpeningLemmas
-- lines that are carried out
pub mod LinesLemmas
-- the whole run
pub mod RunLemmas
-- when it ends so
pub mod ComesLemmas
