-- What opening a disk gives and leaves, and when it is refused.
use Rattle.std.specs.Prelude.{ℕ, ◌≡◌, ◌≢◌, ◌≤◌, List, length, drop, Some, Ok, Err}
use Rattle.plane_words.specs.Causes.{Rose}
use Rattle.plane_disk.specs.Files.{Files, bytes_of}
use Rattle.plane_disk.specs.View.{View}
use Rattle.snap_disk.specs.Opened.{Found, State, opened, durable, IsWithin, PassesLimit}
use Rattle.snap_disk.specs.Images.{LeavesOnly}
use Rattle.snap_disk.specs.Phase.{Layout}
use Rattle.snap_disk.specs.Open.{pending_of}
use Rattle.snap_disk.specs.declared.snap_error.SnapError.{SnapError}
use Rattle.snap_disk.specs.declared.snap_error.SnapError.TheVariants.{DiskFailed, BadSnapshot}
use Rattle.snap_disk.specs.declared.snap_error.SnapError.TheVariants.{Limit, Memory}

-- calls that only read: the disk reads and may be left as before, and every image since was one
pub record Quiet (old new : View) : Type 0 where
  pub names : new.names ≡ old.names
  pub seen : new.seen ≡ old.seen
  pub images : LeavesOnly old new old.is_image
  pub crash : (image : Files) → new.is_image image → old.is_image image
  pub later : old.faults ≤ new.faults

-- from a moment on an image gives what another one gives, and it passes no limit where the other
-- passes none
pub record OpensFrom (names : List (List ℕ)) (now : ℕ) (image other : Files) : Type 0 where
  pub from : (moment : ℕ) → now ≤ moment → opened names image moment ≡ opened names other moment
  pub within : IsWithin (drop 2 other) → IsWithin (drop 2 image)

-- it gives what some image of the disk gives
abbrev pub FromImage : ℕ → View → Files → Type 0
FromImage now view image =
    (other : Files) × view.is_image other × OpensFrom view.names now image other

-- the files of a state, and what waits in it
abbrev pub found : State → Found
found state = record { packages = state.packages; waiting = pending_of state.waits }

-- a disk that reads so is opened as that state
pub record OpensGiving (names : List (List ℕ)) (files : Files) (now : ℕ)
    (state : State) : Type 0 where
  pub within : IsWithin (drop 2 files)
  pub gives : opened names files now ≡ Ok (found state)
  -- and from then on the disk as it read is durable of the state
  pub later : (moment : ℕ) → now ≤ moment → opened names files moment ≡ Ok (durable state moment)

-- a disk that reads so has no reading, with that place
pub record HasNoReading (names : List (List ℕ)) (files : Files) (now place : ℕ) : Type 0 where
  pub within : IsWithin (drop 2 files)
  pub wrong : opened names files now ≡ Err place

-- why opening a disk is refused
abbrev pub Refuses : View → View → ℕ → SnapError → Type 0
Refuses old new now DiskFailed = Rose old.faults new.faults
Refuses old new now (BadSnapshot place) =
    (files : Files) → old.seen ≡ Some files → HasNoReading old.names files now place
Refuses old new now (Limit number) =
    (files : Files) → old.seen ≡ Some files → PassesLimit (drop 2 files) number
Refuses old new now Memory = Unit {0}
Refuses old new now error = ⊥

-- the layout of a disk that reads so
abbrev pub read_as : ℕ × ℕ → List ℕ → Files → Layout
read_as gates body packages =
    record { gate = gates.0; second_gate = gates.1; body = body; packages = packages }

-- what acting on a disk that reads so gives at a moment, and from it on
pub record SettlesAs (names : List (List ℕ)) (files : Files) (now : ℕ)
    (state : State) : Type 0 where
  pub gives : opened names files now ≡ Ok (found state)
  pub later : (moment : ℕ) → now ≤ moment → opened names files moment ≡ Ok (durable state moment)

-- why each part of an opening is refused
abbrev pub ReadRefuses : View → View → SnapError → Type 0
ReadRefuses old new DiskFailed = Rose old.faults new.faults
ReadRefuses old new Memory = Unit {0}
ReadRefuses old new error = ⊥

abbrev pub GatesRefuse : View → View → SnapError → Type 0
GatesRefuse old new DiskFailed = Rose old.faults new.faults
GatesRefuse old new (BadSnapshot place) =
    (files : Files) → old.seen ≡ Some files → (place ≡ length (bytes_of files 0))
    × (length (bytes_of files 0) ≢ 2)
GatesRefuse old new error = ⊥

abbrev pub LoadRefuses : View → View → SnapError → Type 0
LoadRefuses old new DiskFailed = Rose old.faults new.faults
LoadRefuses old new (Limit number) =
    (files : Files) → old.seen ≡ Some files → PassesLimit (drop 2 files) number
LoadRefuses old new Memory = Unit {0}
LoadRefuses old new error = ⊥

abbrev pub SettleRefuses : View → View → Files → ℕ → SnapError → Type 0
SettleRefuses old new files now DiskFailed = Rose old.faults new.faults
SettleRefuses old new files now (BadSnapshot place) = opened old.names files now ≡ Err place
SettleRefuses old new files now Memory = Unit {0}
SettleRefuses old new files now error = ⊥
