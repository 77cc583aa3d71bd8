-- Places for addresses and routes that interfaces may give.

-- which places there are
pub mod Expecting
