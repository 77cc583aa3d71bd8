pub mod ClientLemmas
pub mod FedLemmas
pub mod BusLemmas
