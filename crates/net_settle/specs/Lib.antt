-- The settling of a kernel: what is seen of the kernel and of the output, and how far it came.

-- what is seen of a kernel and of an output
pub mod Outside
-- how far a settling came
pub mod Settle
