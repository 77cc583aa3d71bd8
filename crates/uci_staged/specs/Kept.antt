-- The disk on which the command line's own changes are kept, a file for each package.
use Rattle.std.specs.Prelude.{ℕ, ◌≡◌, ◌≢◌, ◌≤◌, ◌<◌, List, [], length, Some, None}
use Rattle.std.specs.List.{AllByRecursion}
use Rattle.plane_disk.specs.Files.{Files, bytes_of, with_bytes}
use Rattle.plane_disk.specs.Names.{name_at}
use Rattle.plane_disk.specs.View.{View}
use Rattle.uci_delta.specs.declared.delta.Delta.{Delta}
use Rattle.uci_delta.specs.Deltas.{AreDeltas}
use Rattle.uci_delta.specs.Printed.{IsLine, lines_of}
use Rattle.uci_staged.specs.declared.change.StagedChange.{StagedChange}
use Rattle.uci_staged.specs.declared.staged.Staged.{Staged}
use Rattle.uci_staged.specs.Change.{deltas_in}

abbrev pub changes_of : Staged → List StagedChange
changes_of staged = staged.changes.items

-- what the holder has staged of the package of that file
abbrev pub deltas_of : ℕ → ℕ → Staged → List Delta
deltas_of holder file staged = deltas_in holder file (changes_of staged)

-- the change is one of a package of a disk of these names, and a line of a delta file
pub record IsStagedIn (names : List (List ℕ)) (change : StagedChange) : Type 0 where
  pub low : 2 ≤ change.file
  pub number : change.file < length names
  pub line : IsLine (name_at names change.file) change.delta

abbrev pub AreStagedIn : List (List ℕ) → List StagedChange → Type 0
AreStagedIn names changes = AllByRecursion (IsStagedIn names) changes

-- where the disk tells its files, the text of each package is that of the changes of holder 0
abbrev pub AreKept : View → List StagedChange → Type 0
AreKept view changes = (files : Files) → view.seen ≡ Some files → (file : ℕ) → 2 ≤ file → file < length view.names
    → AreDeltas (name_at view.names file) (bytes_of files file) (deltas_in 0 file changes)

-- the staged changes, and their disk as their calls left it
pub record IsStagedOn (staged : Staged) (view : View) : Type 0 where
  pub lines : AreStagedIn view.names (changes_of staged)
  pub kept : AreKept view (changes_of staged)

-- the same disk, later: one that told its files still tells them, and one that did not is still silent
pub record Follows (old new : View) : Type 0 where
  pub names : new.names ≡ old.names
  pub tells : (files : Files) → old.seen ≡ Some files → (now : Files) × (new.seen ≡ Some now)
  pub silent : old.seen ≡ None → new.seen ≡ None
  pub later : old.faults ≤ new.faults

-- of the files that it told, that one alone may be another
abbrev pub ChangesFile : ℕ → View → View → Type 0
ChangesFile file old new = (files now : Files) → old.seen ≡ Some files → new.seen ≡ Some now
    → (other : ℕ) → other ≢ file → bytes_of now other ≡ bytes_of files other

-- of the files that it told, those of packages alone may be others
abbrev pub ChangesPackages : View → View → Type 0
ChangesPackages old new = (files now : Files) → old.seen ≡ Some files → new.seen ≡ Some now
    → (other : ℕ) → other < 2 → bytes_of now other ≡ bytes_of files other

-- and it reads as before
pub record ReadsOn (old new : View) : Type 0 where
  pub names : new.names ≡ old.names
  pub seen : new.seen ≡ old.seen
  pub later : old.faults ≤ new.faults

-- where the disk told its files, it tells now that one of them has these bytes, and the others what they had
abbrev pub HasFilled : View → View → ℕ → List ℕ → Type 0
HasFilled old new file bytes = (files : Files) → old.seen ≡ Some files → new.seen ≡ Some (with_bytes files file bytes)

-- and that all packages are empty
abbrev pub HasEmptied : View → View → Type 0
HasEmptied old new = (files : Files) → old.seen ≡ Some files → (now : Files) × (new.seen ≡ Some now)
    × ((file : ℕ) → 2 ≤ file → bytes_of now file ≡ [])

-- where the holder is 0, the file has now the lines of what holder 0 has staged of its package
abbrev pub IsKeptAt : ℕ → ℕ → View → View → List StagedChange → Type 0
IsKeptAt holder file old new changes = holder ≡ 0 → HasFilled old new file (lines_of (deltas_in 0 file changes))
