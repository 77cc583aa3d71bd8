-- What may be wanted on the devices of a graph.

-- what may be wanted, with ids in place of names
pub mod Wished
-- lists of what may be wanted
pub mod Lists
-- names of which the use of some ids alone has changed
pub mod Differing
-- rows, names and VLANs that are sound together
pub mod Whole
-- wishes, as their crate tells them
pub use Rattle.graph_wishes.specs.Wishes
