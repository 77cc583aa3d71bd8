pub mod LengthLemmas
pub mod HeadLemmas
pub mod FrontLemmas
pub mod LookLemmas
pub mod AskedLemmas
pub mod NextLemmas
pub mod ResponseLemmas
