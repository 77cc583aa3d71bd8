-- Network files from before OpenWrt 21.02.

-- options of a section
pub mod Options
-- sections, and the rules for them
pub mod Rules
-- packages
pub mod Rewriting
-- names of `device` sections
pub mod Names
-- what is kept while a package is gone through
pub mod State
-- what is claimed of it
pub mod Laws
