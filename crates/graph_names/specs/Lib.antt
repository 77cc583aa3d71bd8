-- Names with what is told of them.

-- a list of names with one more
pub mod Table
-- how names are kept
pub mod Inside
