-- The store and its disks behind a call.
use Rattle.std.specs.Prelude.{ℕ, ◌≡◌, ◌≢◌, ◌⊎◌, false, Result, Err}
use Rattle.plane_words.specs.Causes.{Rose}
use Rattle.plane_disk.specs.View.{View}
use Rattle.snap_disk.specs.Images.{SameDisk}
use Rattle.uci_staged.specs.Kept.{Follows}
use Rattle.uci_store.specs.declared.store.Store.{Store}
use Rattle.uci_store.specs.Store.{names_of, has_failed, IsOnFiles, IsOnStaged}
use Rattle.rpc_objects.specs.declared.uci_answer.CallStop.{CallStop}
use Rattle.rpc_objects.specs.declared.uci_answer.CallStop.TheVariants as stop

-- The store stays on its disks, which are the same ones. Unless a disk failed, no call of the store has.
pub record StaysOn {X : Type 0} (result : Result X CallStop) (old new : Store)
    (files_before files_after staged_before staged_after : View) : Type 0 where
  pub files : IsOnFiles new files_after
  pub staged : IsOnStaged new staged_after
  pub names : names_of new ≡ names_of old
  pub same : SameDisk files_before files_after
  pub follows : Follows staged_before staged_after
  pub ready : result ≢ Err stop.DiskFailed → has_failed new ≡ false

-- the counts of faults of the disk of the files and of that of staged changes, then and now
pub record DiskFaults : Type 0 where
  pub files : ℕ
  pub files_now : ℕ
  pub staged : ℕ
  pub staged_now : ℕ

abbrev pub faults_of : View → View → View → View → DiskFaults
faults_of files files_now staged staged_now = record {
  files = files.faults;
  files_now = files_now.faults;
  staged = staged.faults;
  staged_now = staged_now.faults;
}

-- one of the disks failed
abbrev pub DiskRose : DiskFaults → Type 0
DiskRose disks = Rose disks.files disks.files_now ⊎ Rose disks.staged disks.staged_now
