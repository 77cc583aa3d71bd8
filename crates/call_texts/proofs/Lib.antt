pub mod FloatLemmas
pub mod JsonLemmas
