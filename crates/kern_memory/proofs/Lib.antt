pub mod EqLemmas
pub mod ObjectLemmas
pub mod AtLemmas
pub mod PlaceLemmas
pub mod GoneLemmas
pub mod DeviceLemmas
pub mod AdmissionLemmas
