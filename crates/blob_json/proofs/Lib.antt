pub mod FromJsonLemmas
pub mod ToJsonLemmas
pub mod NameLemmas
