-- The counts of faults of the disks.
use Rattle.std.specs.Prelude.{ℕ, ◌⊎◌}
use Rattle.plane_words.specs.Causes.{Rose}
use Rattle.plane_disk.specs.View.{View}

-- the counts of faults of the disk of the files and of that of staged changes, then and now
pub record DiskFaults : Type 0 where
  pub files : ℕ
  pub files_now : ℕ
  pub staged : ℕ
  pub staged_now : ℕ

abbrev pub faults_of : View → View → View → View → DiskFaults
faults_of files files_now staged staged_now = record {
  files = files.faults;
  files_now = files_now.faults;
  staged = staged.faults;
  staged_now = staged_now.faults;
}

-- one of the disks failed
abbrev pub DiskRose : DiskFaults → Type 0
DiskRose disks = Rose disks.files disks.files_now ⊎ Rose disks.staged disks.staged_now
