pub mod PlaceLemmas
pub mod DeviceLemmas
pub mod OperatorStateLemmas
pub mod IdleLemmas
pub mod OwnLemmas
pub mod StateLemmas
