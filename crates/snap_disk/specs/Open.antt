-- An object and the disk on which it was opened.
use Rattle.std.specs.Prelude.{ℕ, ◌≡◌, ◌≢◌, ◌+◌, Bool, false, List, [], ◌∷◌, length, Option, Some}
use Rattle.std.specs.Prelude.{None, Ok, nat_le, if◌then◌else◌}
use Rattle.plane_disk.specs.Files.{Files, bytes_of}
use Rattle.plane_disk.specs.View.{View}
use Rattle.snap_disk.specs.Body.{has_number, read_body}
use Rattle.snap_disk.specs.Opened.{put, open_gate, IsWithin, State, Waits, settled, pending_over}
use Rattle.snap_disk.specs.Opened.{OpensAs}
use Rattle.snap_disk.specs.Images.{LeavesOnly, IsOn}
use Rattle.snap_disk.specs.Phase.{Layout, files_of, ArePackageFiles, IsWaiting, GivesBack}
use Rattle.snap_disk.specs.declared.new_file.NewFile.{NewFile}
use Rattle.snap_disk.specs.declared.new_file.Pending.{Pending}
use Rattle.snap_disk.specs.declared.kept.Kept.{Kept}
use Rattle.snap_disk.specs.declared.snap.Snap.{Snap}

-- what waits over these packages
abbrev pub waits_of : Option Kept → Files → Option Waits
waits_of None packages = None
waits_of (Some kept) packages =
    Some (record { pending = kept.pending; before = put kept.files packages })

-- the state of an object
abbrev pub state_of : Snap → State
state_of snap =
    record { packages = snap.packages.items; waits = waits_of snap.kept snap.packages.items }

-- a layout shows what is kept
abbrev pub WaitsAs : List (List ℕ) → Option Kept → Layout → Type 0
WaitsAs names None l = l.gate ≢ open_gate
WaitsAs names (Some kept) l = IsWaiting names kept l

abbrev pub KeepsFiles : ℕ → Option Kept → Type 0
KeepsFiles count None = Unit {0}
KeepsFiles count (Some kept) = ArePackageFiles count kept.files

-- a layout shows the object
pub record Shows (names : List (List ℕ)) (snap : Snap) (l : Layout) : Type 0 where
  pub packages : l.packages ≡ snap.packages.items
  pub waits : WaitsAs names snap.kept l

-- The disk on which the object was opened, as the calls of the object left it.
pub record IsOpenOn (snap : Snap) (view : View) : Type 0 where
  pub count : length view.names ≡ length snap.packages.items + 2
  pub within : IsWithin snap.packages.items
  pub kept : KeepsFiles (length view.names) snap.kept
  -- as long as no call has failed, what the disk reads as shows the object, and is the only image
  pub shows : snap.failed ≡ false → (files : Files) → view.seen ≡ Some files
      → (l : Layout) × IsOn view (files_of l) × Shows view.names snap l
  -- and so every image, opened at any moment, is durable of the state
  pub durable : snap.failed ≡ false → (files : Files) → view.seen ≡ Some files
      → (image : Files) → view.is_image image → OpensAs view.names (state_of snap) image

-- every image since the start of a call, where the disk tells and no earlier call has failed
abbrev pub ImagesSince : Snap → View → View → (Files → Type 0) → Type 0
ImagesSince snap old new P =
    snap.failed ≡ false → (files : Files) → old.seen ≡ Some files → LeavesOnly old new P

-- the state after a begin, with a deadline or as a plain commit
abbrev pub begun : State → List NewFile → Option Pending → State
begun state new None = settled (put new state.packages)
begun state new (Some pending) = pending_over (put new state.packages) pending state.packages

abbrev pub before : Option Waits → Files → Files
before None packages = packages
before (Some waits) packages = waits.before

-- the state after a confirm, and after a rollback
abbrev pub confirmed : State → State
confirmed state = settled state.packages

abbrev pub rolled_back : State → State
rolled_back state = settled (before state.waits state.packages)

-- whether the deadline of what waits has come
abbrev pub is_due : Option Waits → ℕ → Bool
is_due None now = false
is_due (Some waits) now = nat_le waits.pending.deadline now

-- the state after a tick
abbrev pub ticked : State → ℕ → State
ticked state now = if is_due state.waits now then rolled_back state else state

abbrev pub pending_of : Option Waits → Option Pending
pending_of None = None
pending_of (Some waits) = Some waits.pending

-- of these packages, from a file's number on, those that new files have the numbers of, as they are
abbrev pub old_files : List NewFile → ℕ → Files → List NewFile
old_files new file [] = []
old_files new file (bytes ∷ packages) =
    if has_number new file
    then record { file = file; bytes = bytes } ∷ old_files new (file + 1) packages
    else old_files new (file + 1) packages

-- a body is on the way to the disk for a begin of these files
pub record IsStaged (names : List (List ℕ)) (text : List ℕ) (new : List NewFile) (snap : Snap)
    (body : Kept) : Type 0 where
  pub reads : read_body names text ≡ Ok body
  pub back : GivesBack body.files new snap.packages.items
  pub files : ArePackageFiles (length names) body.files

-- what the body of a begin keeps: the files that are written, as they are; of a plain commit with
-- deadline and holder 0
abbrev pub pending_or_none : Option Pending → Pending
pending_or_none None = record { deadline = 0; holder = 0 }
pending_or_none (Some pending) = pending

abbrev pub begun_body : State → List NewFile → Option Pending → Kept
begun_body state new wait =
    record { pending = pending_or_none wait; files = old_files new 2 state.packages }

-- what a read of the body gives after a call, where the disk told its files before
abbrev pub HoldsBody : View → View → List ℕ → Type 0
HoldsBody old new text =
    (files : Files) → old.seen ≡ Some files → (left : Files) × (new.seen ≡ Some left)
    × (bytes_of left 1 ≡ text)
