-- The kernel as a model: what it holds, what may be asked of it, what it does then, and how that is
-- printed.

-- device names
pub mod Name
-- how device names lie in memory
pub mod NameInside
-- names of the form X.N, which stand for VLANs, and plain names
pub mod VlanName
-- objects as a finite set
pub mod ObjectOrder
-- what stands on a name, what goes with it, heights
pub mod Standing
-- what exists, what calls and events do, own values, what was asked
pub mod Kernel
-- what a kernel admits
pub mod Admission
-- which sets of objects are allowed
pub mod Allowed
-- which objects are touched, taken, replaced and put
pub mod Touched
-- the tests by which lists of devices and objects are judged
pub mod AdmissionTest
-- lines of calls
pub mod Line
-- the order of calls; calls that are admitted each in its turn
pub mod CallOrder
