-- The folder that a run finds, the one that it leaves, and what a stop leaves.
use Rattle.std.specs.Prelude.{ℕ, ◌≡◌, ◌⊎◌, List, drop, Option, Some}
use Rattle.plane_disk.specs.Files.{Files}
use Rattle.plane_disk.specs.View.{View}
use Rattle.snap_disk.specs.Images.{LeavesOnly}
use Rattle.snap_disk.specs.Opened.{OpensAs}
use Rattle.snap_disk.specs.Opening.{OpensGiving, FromImage}
use Rattle.uci_staged.specs.Kept.{AreKept}
use Rattle.uci_store.specs.Opening.{AreOwn}
use Rattle.uci_tool.specs.Ends.{Streams, IsInput}
use Rattle.uci_tool.specs.Folder.{Folder}
use Rattle.uci_tool.specs.Passes.{uci_passes}
use Rattle.uci_tool.specs.Stops.{OpensAmong}

-- The moment is what the clock gave, where it told what it would give.
abbrev pub IsMoment : Option (ℕ → ℕ) → ℕ → Type 0
IsMoment told now = (moments : ℕ → ℕ) → told ≡ Some moments → now ≡ moments 0

-- What two disks give at a moment. The names are those of the packages. Where the disk of the files tells what it reads
-- as, the files are what that gives then and from then on. What is staged is the command line's, as the other disk has
-- it.
pub record IsFound (files staged : View) (now : ℕ) (folder : Folder) : Type 0 where
  pub names : folder.names ≡ drop 2 files.names
  pub opens : (read : Files) → files.seen ≡ Some read → OpensGiving files.names read now folder.files
  pub own : AreOwn folder.staged
  pub kept : AreKept staged folder.staged

-- What two disks hold. Each image of the files, opened at any moment, gives what the folder is to give, and the other
-- disk has what the command line has staged.
pub record IsHeld (files staged : View) (folder : Folder) : Type 0 where
  pub names : folder.names ≡ drop 2 files.names
  pub opens : (read : Files) → files.seen ≡ Some read → (image : Files) → files.is_image image
      → OpensAs files.names folder.files image
  pub kept : AreKept staged folder.staged

-- Where the disk tells its files: each of its images since the start, opened from a moment on, gives what an image of
-- the disk at the start gives.
abbrev pub StopsAsFound : ℕ → View → View → Type 0
StopsAsFound now old new = (read : Files) → old.seen ≡ Some read → LeavesOnly old new (FromImage now old)

-- or what a folder is to give that the command passes through with the input that it read
pub record StopsOver (words : List (List ℕ)) (now : ℕ) (streams : Streams) (before : Folder) (old new : View)
    : Type 0 where
  pub input : List ℕ
  pub is : IsInput words streams.input input
  pub leaves : (read : Files) → old.seen ≡ Some read
      → LeavesOnly old new (λ image. FromImage now old image ⊎ OpensAmong old.names (uci_passes words before input)
      image)

abbrev pub Stops : List (List ℕ) → ℕ → Streams → Folder → View → View → Type 0
Stops words now streams before old new = StopsAsFound now old new ⊎ StopsOver words now streams before old new
