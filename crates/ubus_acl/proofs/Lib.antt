mod PatternLemmas
mod ReadLemmas
mod BadLemmas
