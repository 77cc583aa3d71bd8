pub mod WishLemmas
pub mod MayLemmas
pub mod StoodLemmas
