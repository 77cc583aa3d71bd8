-- Numbers of errors.
use Rattle.std.specs.Prelude.{ℕ}
use Rattle.snap_disk.specs.declared.snap_error.SnapError.{SnapError}
use Rattle.snap_disk.specs.declared.snap_error.SnapError.TheVariants.{DiskFailed, Waiting}
use Rattle.snap_disk.specs.declared.snap_error.SnapError.TheVariants.{NothingWaits, BadSnapshot}
use Rattle.snap_disk.specs.declared.snap_error.SnapError.TheVariants.{Reopen, Limit, Memory}

-- 30 to 34 for what a disk and its snapshot say, 10 for a limit, 8 for memory
abbrev pub number_of : SnapError → ℕ
number_of DiskFailed = 30
number_of (Waiting deadline) = 31
number_of NothingWaits = 32
number_of (BadSnapshot byte) = 33
number_of Reopen = 34
number_of (Limit number) = 10
number_of Memory = 8
