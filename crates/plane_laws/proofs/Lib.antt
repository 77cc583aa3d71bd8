-- stretches of planes that are settled at their end
pub mod StretchLemmas
