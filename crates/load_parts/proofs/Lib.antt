pub mod FurtherLemmas
