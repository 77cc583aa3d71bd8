-- A disk of two gate bytes, a body and packages, and phases of calls over it.
use Rattle.std.specs.Prelude.{ℕ, ◌≡◌, ◌≢◌, ◌≤◌, ◌<◌, ◌+◌, ◌⊎◌, max, List, [], ◌∷◌, length, Some}
use Rattle.std.specs.Prelude.{None, Result, Ok, OnOk}
use Rattle.plane_disk.specs.Files.{Files, bytes_of, with_bytes}
use Rattle.plane_disk.specs.View.{View}
use Rattle.snap_disk.specs.Images.{LeavesOnly, IsOn}
use Rattle.snap_disk.specs.Body.{most_bytes, read_body}
use Rattle.snap_disk.specs.Opened.{put, open_gate, IsWithin, State, settled, pending_over, OpensAs}
use Rattle.snap_disk.specs.Opened.{OpensAsEither}
use Rattle.snap_disk.specs.declared.new_file.NewFile.{NewFile}
use Rattle.snap_disk.specs.declared.kept.Kept.{Kept}

pub record Layout : Type 0 where
  pub gate : ℕ
  pub second_gate : ℕ
  pub body : List ℕ
  pub packages : Files

abbrev pub files_of : Layout → Files
files_of l = (l.gate ∷ l.second_gate ∷ []) ∷ l.body ∷ l.packages

-- what the disk reads as has a layout, where it tells, and is the only image
abbrev pub IsLaid : View → Type 0
IsLaid view = (files : Files) → view.seen ≡ Some files → (l : Layout) × IsOn view (files_of l)

-- A phase: from a layout that is on the disk, every image since the start is one of these, and
-- after Ok that layout is on the disk. A phase ends with a sync.
pub record Phase {T E : Type 0} (old new : View) (result : Result T E)
    (may : Layout → Files → Type 0) (done : Layout → Layout) : Type 0 where
  pub names : new.names ≡ old.names
  pub silent : old.seen ≡ None → new.seen ≡ None
  pub tells : (files : Files) → old.seen ≡ Some files → (now : Files) × (new.seen ≡ Some now)
  pub images : (l : Layout) → IsOn old (files_of l) → LeavesOnly old new (may l)
  pub ends : (l : Layout) → IsOn old (files_of l) → OnOk result (IsOn new (files_of (done l)))

-- the numbers of files; one of them is that one
abbrev pub Stands : List NewFile → ℕ → Type 0
Stands [] number = ⊥
Stands (file ∷ files) number = (number ≡ file.file) ⊎ Stands files number

-- packages of a disk of that many files, each of at most so many bytes
pub record IsPackageFile (count : ℕ) (file : NewFile) : Type 0 where
  pub low : 2 ≤ file.file
  pub number : file.file < count
  pub small : length file.bytes ≤ most_bytes

abbrev pub ArePackageFiles : ℕ → List NewFile → Type 0
ArePackageFiles count [] = Unit {0}
ArePackageFiles count (file ∷ files) = IsPackageFile count file × ArePackageFiles count files

-- the same packages but for those of these files, none longer than it was or than a package may be
pub record IsBeside (files : List NewFile) (old new : Files) : Type 0 where
  pub count : length new ≡ length old
  pub others : (index : ℕ) → (Stands files (index + 2) → ⊥)
      → bytes_of new index ≡ bytes_of old index
  pub small : (index : ℕ)
      → length (bytes_of new index) ≤ max (length (bytes_of old index)) most_bytes

abbrev pub AnyGate : Layout → Files → Type 0
AnyGate l image = (gate : ℕ) × (image ≡ files_of (record l { gate = gate }))

abbrev pub AnySecondGate : Layout → Files → Type 0
AnySecondGate l image = (gate : ℕ) × (image ≡ files_of (record l { second_gate = gate }))

abbrev pub AnyBody : Layout → Files → Type 0
AnyBody l image = (body : List ℕ) × (image ≡ files_of (record l { body = body }))

abbrev pub AnyPackages : List NewFile → Layout → Files → Type 0
AnyPackages files l image =
    (packages : Files) × (image ≡ files_of (record l { packages = packages }))
    × IsBeside files l.packages packages

-- an apply waits
pub record IsWaiting (names : List (List ℕ)) (kept : Kept) (l : Layout) : Type 0 where
  pub gate : l.gate ≡ open_gate
  pub second_gate : l.second_gate ≡ open_gate
  pub body : read_body names l.body ≡ Ok kept

-- the old files are to stand again
pub record IsRestoring (names : List (List ℕ)) (kept : Kept) (l : Layout) : Type 0 where
  pub gate : l.gate ≡ open_gate
  pub second_gate : l.second_gate ≢ open_gate
  pub body : read_body names l.body ≡ Ok kept

-- what is kept of files gives the packages again, whatever stands in the files that are written
abbrev pub GivesBack : List NewFile → List NewFile → Files → Type 0
GivesBack kept written packages =
    (now : Files) → IsBeside written packages now → put kept now ≡ packages

-- the state of an apply that waits over these packages
abbrev pub over : Files → Kept → State
over packages kept = pending_over packages kept.pending (put kept.files packages)

-- the images of a restore of these files
abbrev pub Restores : List (List ℕ) → List NewFile → Layout → Files → Type 0
Restores names files l image =
    (kept : Kept) → IsRestoring names kept l → kept.files ≡ files → IsWithin l.packages
    → OpensAs names (settled (put files l.packages)) image

-- the images of a rollback to these files
abbrev pub Undoes : List (List ℕ) → List NewFile → Layout → Files → Type 0
Undoes names files l image =
    (kept : Kept) → IsWaiting names kept l → kept.files ≡ files → IsWithin l.packages
    → OpensAsEither names (over l.packages kept) (settled (put files l.packages)) image

-- what a begin stands on: nothing waits, the body reads, and gives the packages back over the new
-- files
pub record IsReady (names : List (List ℕ)) (body : List ℕ) (new : List NewFile) (kept : Kept)
    (l : Layout) : Type 0 where
  pub gate : l.gate ≢ open_gate
  pub reads : read_body names body ≡ Ok kept
  pub back : GivesBack kept.files new l.packages
  pub within : IsWithin l.packages

-- what the first writes of a begin stand on: the body gives the packages back as they are
pub record IsStill (names : List (List ℕ)) (body : List ℕ) (kept : Kept) (l : Layout) : Type 0 where
  pub gate : l.gate ≢ open_gate
  pub reads : read_body names body ≡ Ok kept
  pub back : put kept.files l.packages ≡ l.packages
  pub within : IsWithin l.packages

-- the images of these writes
abbrev pub Prepares : List (List ℕ) → List ℕ → Layout → Files → Type 0
Prepares names body l image =
    (kept : Kept) → IsStill names body kept l → OpensAs names (settled l.packages) image

-- the images of a begin of these files up to its last write
abbrev pub Stages : List (List ℕ) → List ℕ → List NewFile → Layout → Files → Type 0
Stages names body new l image =
    (kept : Kept) → IsReady names body new kept l → OpensAs names (settled l.packages) image

-- the images of a whole one that leaves an apply waiting
abbrev pub Applies : List (List ℕ) → List ℕ → List NewFile → Layout → Files → Type 0
Applies names body new l image = (kept : Kept) → IsReady names body new kept l
    → OpensAsEither names (settled l.packages)
    (pending_over (put new l.packages) kept.pending l.packages) image

-- and of one that commits
abbrev pub Commits : List (List ℕ) → List ℕ → List NewFile → Layout → Files → Type 0
Commits names body new l image = (kept : Kept) → IsReady names body new kept l
    → OpensAsEither names (settled l.packages) (settled (put new l.packages)) image

-- one file is filled with so many bytes: the others of an image are those of one from before, and
-- it is no longer than it was or than that
pub record IsFilled (file size : ℕ) (old new : Files) : Type 0 where
  pub count : length new ≡ length old
  pub others : (other : ℕ) → other ≢ file → bytes_of new other ≡ bytes_of old other
  pub small : length (bytes_of new file) ≤ max (length (bytes_of old file)) size

pub record Fills {T E : Type 0} (old new : View) (result : Result T E) (file : ℕ)
    (bytes : List ℕ) : Type 0 where
  pub names : new.names ≡ old.names
  pub silent : old.seen ≡ None → new.seen ≡ None
  pub tells : (files : Files) → old.seen ≡ Some files → (now : Files) × (new.seen ≡ Some now)
  pub images : LeavesOnly old new (λ image. (from : Files) × old.is_image from
      × IsFilled file (length bytes) from image)
  pub seen : OnOk result ((files : Files) → old.seen ≡ Some files
      → new.seen ≡ Some (with_bytes files file bytes))
