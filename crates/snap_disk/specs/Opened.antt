-- What a disk gives when it is opened, and what a state is to give.
use Rattle.std.specs.Prelude.{ℕ, ◌≡◌, ◌-◌, ◌≤◌, ◌<◌, ◌⊎◌, List, [], ◌∷◌, length, drop, Option, Some}
use Rattle.std.specs.Prelude.{None, Result, Ok, Err, nat_eq, nat_lt, if◌then◌else◌}
use Rattle.plane_disk.specs.Files.{Files, bytes_of, with_bytes}
use Rattle.snap_disk.specs.Body.{most_bytes, read_body}
use Rattle.snap_disk.specs.declared.new_file.NewFile.{NewFile}
use Rattle.snap_disk.specs.declared.new_file.Pending.{Pending}
use Rattle.snap_disk.specs.declared.kept.Kept.{Kept}

-- the value of a gate byte that is open; any other is closed
abbrev pub open_gate : ℕ
open_gate = 79

-- Packages are listed from file 2 of the disk on. One file has these bytes, the others what they
-- had.
abbrev pub with_package : Files → ℕ → List ℕ → Files
with_package packages file bytes = with_bytes packages (file - 2) bytes

-- the packages after these files were written, the first of them first
abbrev pub put : List NewFile → Files → Files
put [] packages = packages
put (file ∷ files) packages = put files (with_package packages file.file file.bytes)

-- the packages, and what waits
pub record Found : Type 0 where
  pub packages : Files
  pub waiting : Option Pending

abbrev pub at_rest : Files → Found
at_rest packages = record { packages = packages; waiting = None }

-- the old files are those of the body, and every other as it reads
abbrev pub restored : Result Kept ℕ → Files → Result Found ℕ
restored (Err place) packages = Err place
restored (Ok kept) packages = Ok (at_rest (put kept.files packages))

abbrev pub waiting_until : Result Kept ℕ → Files → ℕ → Result Found ℕ
waiting_until (Err place) packages now = Err place
waiting_until (Ok kept) packages now =
    if nat_lt now kept.pending.deadline
    then Ok (record { packages = packages; waiting = Some kept.pending })
    else Ok (at_rest (put kept.files packages))

abbrev pub by_gates : List ℕ → Result Kept ℕ → Files → ℕ → Result Found ℕ
by_gates (gate ∷ second_gate ∷ []) body packages now =
    if nat_eq gate open_gate
    then (if nat_eq second_gate open_gate then waiting_until body packages now
    else restored body packages)
    else Ok (at_rest packages)
by_gates gates body packages now = Err (length gates)

-- What a disk of these names with these files gives when it is opened at a moment, or no reading,
-- with a place: the size of file 0 where that is not two bytes, or the first wrong place of the
-- body where that is to be read. With the first gate closed it is the files as they read; with the
-- first open and the second closed the old files; with both open the files as they read, waiting,
-- before the deadline, and the old files from it on.
abbrev pub opened : List (List ℕ) → Files → ℕ → Result Found ℕ
opened names image now =
    by_gates (bytes_of image 0) (read_body names (bytes_of image 1)) (drop 2 image) now

-- the packages pass no limit: at most 64, each of at most so many bytes
pub record IsWithin (packages : Files) : Type 0 where
  pub few : length packages ≤ 64
  pub small : (index : ℕ) → length (bytes_of packages index) ≤ most_bytes

-- they pass this one, the number of them looked at first
pub record PassesNumber (packages : Files) (number : ℕ) : Type 0 where
  pub limit : number ≡ 64
  pub passed : 64 < length packages

pub record PassesSize (packages : Files) (number : ℕ) : Type 0 where
  pub few : length packages ≤ 64
  pub limit : number ≡ most_bytes
  pub index : ℕ
  pub passed : most_bytes < length (bytes_of packages index)

abbrev pub PassesLimit : Files → ℕ → Type 0
PassesLimit packages number = PassesNumber packages number ⊎ PassesSize packages number

-- what waits, and the packages before it
pub record Waits : Type 0 where
  pub pending : Pending
  pub before : Files

pub record State : Type 0 where
  pub packages : Files
  pub waits : Option Waits

abbrev pub durable_with : Option Waits → Files → ℕ → Found
durable_with None packages now = at_rest packages
durable_with (Some waits) packages now =
    if nat_lt now waits.pending.deadline
    then record { packages = packages; waiting = Some waits.pending }
    else at_rest waits.before

-- what a state is to give at a moment: its files where nothing waits, the files, waiting, before
-- the deadline, and those before from the deadline on
abbrev pub durable : State → ℕ → Found
durable state now = durable_with state.waits state.packages now

-- an image is durable of a state, opened at any moment, and passes no limit
pub record OpensAs (names : List (List ℕ)) (state : State) (image : Files) : Type 0 where
  pub at : (now : ℕ) → opened names image now ≡ Ok (durable state now)
  pub within : IsWithin (drop 2 image)

-- it is durable of one of two states
abbrev pub OpensAsEither : List (List ℕ) → State → State → Files → Type 0
OpensAsEither names before after image = OpensAs names before image ⊎ OpensAs names after image

-- a state in which nothing waits
abbrev pub settled : Files → State
settled packages = record { packages = packages; waits = None }

-- one in which an apply waits, behind which stand these packages
abbrev pub pending_over : Files → Pending → Files → State
pending_over packages pending before =
    record { packages = packages; waits = Some (record { pending = pending; before = before }) }
