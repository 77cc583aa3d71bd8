-- Histories of the plane of interfaces.

-- from one plane to another
pub mod Stretch
