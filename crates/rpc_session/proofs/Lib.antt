mod AlteredLemmas
mod ArgumentLemmas
mod NameLemmas
mod OrderLemmas
mod SessionListLemmas
mod StepLemmas
mod ServeLemmas
mod PatternLemmas
