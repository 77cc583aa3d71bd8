-- What a graph of devices may want.

-- the objects that its rows can ever want, each with the two names whose use makes it wanted
pub mod Wishes
