pub mod SessionLemmas
-- a store on its disks behind a call, and the images of its files
pub mod StoreLemmas
-- calls of the object `session`
pub mod LocalSessionLemmas
-- calls of the object `uci`, and the reload behind them
pub mod UciLemmas
-- calls of the objects of the network
pub mod NetworkLemmas
-- calls of an object that is this one
pub mod ObjectLemmas
