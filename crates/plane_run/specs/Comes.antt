-- When a run of a script ends so.
use Rattle.std.specs.Prelude.{ℕ, ◌≡◌, ◌⊎◌, drop, Some, ⊤}
use Rattle.plane_words.specs.Causes.{DidNotRise}
use Rattle.plane_disk.specs.Files.{Files}
use Rattle.snap_disk.specs.Opened.{PassesLimit}
use Rattle.snap_disk.specs.Opening.{HasNoReading}
use Rattle.plane_run.specs.declared.run_end.RunEnd.{RunEnd}
use Rattle.plane_run.specs.declared.run_end.RunEnd.TheVariants as end
use Rattle.plane_run.specs.Run.{Seen}

-- no count of the input, the output, a disk or the kernel rose
pub record IsCalm (seen : Seen) : Type 0 where
  pub at_input : DidNotRise seen.input.faults seen.input.faults_now
  pub at_output : DidNotRise seen.first.before.out_faults seen.after.out_faults
  pub at_files : DidNotRise seen.first.files.faults seen.files_now.faults
  pub at_staged : DidNotRise seen.first.staged.faults seen.staged_now.faults
  pub at_kernel : DidNotRise seen.first.before.kernel_faults seen.after.kernel_faults

-- a device is told to have failed
abbrev pub IsFailure : RunEnd → Type 0
IsFailure end.ReadFailed = ⊤
IsFailure end.WriteFailed = ⊤
IsFailure end.DiskFailed = ⊤
IsFailure (end.KernelFailed left) = ⊤
IsFailure _ = ⊥

abbrev pub IsLong : RunEnd → Type 0
IsLong (end.TooLong limit) = ⊤
IsLong _ = ⊥

-- that, or want of memory
abbrev pub OrLacksMemory : Type 0 → RunEnd → Type 0
OrLacksMemory fact ending = fact ⊎ (ending ≡ end.OutOfMemory)

-- When a run ends so. Want of memory may come in place of each ending.
pub record RunComes (seen : Seen) (ending : RunEnd) : Type 0 where
  -- where no count rose, no device is told to have failed
  pub calm : IsCalm seen → IsFailure ending → ⊥
  -- files that pass a limit
  pub too_large : (read : Files) (number : ℕ) → IsCalm seen → seen.first.files.seen ≡ Some read
      → PassesLimit (drop 2 read) number → OrLacksMemory (IsLong ending) ending
  -- files without a reading
  pub bad_snapshot : (read : Files) (byte : ℕ) → IsCalm seen → seen.first.files.seen ≡ Some read
      → HasNoReading seen.first.files.names read seen.first.now byte
      → OrLacksMemory (ending ≡ end.BadSnapshot byte) ending
