-- What a load brings beside its rows.

-- names beside those of the rows
pub mod Further
