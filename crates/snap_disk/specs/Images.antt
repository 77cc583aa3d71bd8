-- What a run of calls leaves of a disk.
use Rattle.std.specs.Prelude.{ℕ, ◌≡◌, ◌⊎◌, ◌≤◌, Some, None}
use Rattle.plane_disk.specs.Files.{Files}
use Rattle.plane_disk.specs.View.{View, Only}

-- every image since the old moment has P; for a run that began earlier, every image since then was
-- one before or has P
pub record LeavesOnly (old new : View) (P : Files → Type 0) : Type 0 where
  pub later : old.moment ≤ new.moment
  pub each : (image : Files) → new.was_image old.moment image → P image
  pub before : (from : ℕ) (image : Files) → from ≤ old.moment → new.was_image from image
      → old.was_image from image ⊎ P image

-- these files are what a read gives, and the only image
pub record IsOn (view : View) (files : Files) : Type 0 where
  pub seen : view.seen ≡ Some files
  pub only : Only files view.is_image

-- The same disk after a call, whatever it answered: its names stay, one that told its files still
-- tells them, one that did not is still silent, and its faults only rise.
pub record SameDisk (old new : View) : Type 0 where
  pub names : new.names ≡ old.names
  pub tells : (files : Files) → old.seen ≡ Some files → (now : Files) × (new.seen ≡ Some now)
  pub silent : old.seen ≡ None → new.seen ≡ None
  pub later : old.faults ≤ new.faults
