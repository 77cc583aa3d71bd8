-- What lines leave of the store and of its disks.
use Rattle.std.specs.Prelude.{◌≡◌, ◌≢◌, false, Result, Err}
use Rattle.plane_disk.specs.View.{View}
use Rattle.snap_disk.specs.Images.{SameDisk}
use Rattle.uci_staged.specs.Kept.{Follows}
use Rattle.uci_store.specs.declared.store.Store.{Store}
use Rattle.uci_store.specs.Store.{names_of, has_failed, IsOnFiles, IsOnStaged}
use Rattle.plane_step.specs.declared.stop.Stop.{Stop}
use Rattle.plane_step.specs.declared.stop.Stop.TheVariants as stop

-- The store stays on its disks, which are the same ones. Unless a disk failed, no call of the store has.
pub record StaysOn {X : Type 0} (result : Result X Stop) (old new : Store)
    (files_before files_after staged_before staged_after : View) : Type 0 where
  pub files : IsOnFiles new files_after
  pub staged : IsOnStaged new staged_after
  pub names : names_of new ≡ names_of old
  pub same : SameDisk files_before files_after
  pub follows : Follows staged_before staged_after
  pub ready : result ≢ Err stop.DiskFailed → has_failed new ≡ false
