pub mod SetLemmas
pub mod NumberLemmas
pub mod AddressLemmas
pub mod WordLemmas
