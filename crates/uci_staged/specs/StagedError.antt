-- Numbers of errors, and why calls of staged changes are refused.
use Rattle.std.specs.Prelude.{ℕ, ◌≡◌}
use Rattle.plane_words.specs.Causes.{Rose}
use Rattle.plane_disk.specs.View.{View}
use Rattle.uci_staged.specs.declared.staged_error.StagedError.{StagedError}
use Rattle.uci_staged.specs.declared.staged_error.StagedError.TheVariants.{DiskFailed, Memory}

-- 30 for a disk that failed, 8 for memory
abbrev pub number_of : StagedError → ℕ
number_of DiskFailed = 30
number_of Memory = 8

-- the disk's count of faults rose, or there was no memory
abbrev pub DiskRefuses : View → View → StagedError → Type 0
DiskRefuses old new DiskFailed = Rose old.faults new.faults
DiskRefuses old new Memory = Unit {0}

-- the disk of the command line's own changes alone is written
abbrev pub KeepRefuses : ℕ → View → View → StagedError → Type 0
KeepRefuses holder old new DiskFailed = (holder ≡ 0) × Rose old.faults new.faults
KeepRefuses holder old new Memory = Unit {0}
