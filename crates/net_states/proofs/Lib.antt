pub mod PlaceLemmas
pub mod CountLemmas
pub mod BecomeLemmas
pub mod FollowLemmas
pub mod LoadLemmas
