pub mod PutLemmas
pub mod ImageLemmas
pub mod StateLemmas
pub mod ViewLemmas
pub mod KeptLemmas
