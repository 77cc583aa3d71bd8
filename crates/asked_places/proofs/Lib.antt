pub mod PlaceLemmas
pub mod LeftLemmas
pub mod LostLemmas
pub mod RangeLemmas
pub mod OpenLemmas
pub mod TouchedLemmas
pub mod OrderLemmas
