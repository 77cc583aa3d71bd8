-- decimals as std reads them
pub mod NumberLemmas
