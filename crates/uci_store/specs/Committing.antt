-- What a commit leaves, and why it is refused.
use Rattle.std.specs.Prelude.{ℕ, ◌≡◌, ◌≤◌, ◌<◌, ◌+◌, ◌⊎◌, true, false, List, [], ◌∷◌, length, Option, Some, None}
use Rattle.plane_words.specs.Causes.{Rose}
use Rattle.plane_disk.specs.View.{View}
use Rattle.snap_disk.specs.declared.new_file.NewFile.{NewFile}
use Rattle.snap_disk.specs.declared.snap_error.SnapError.TheVariants.{DiskFailed, Waiting, Reopen}
use Rattle.snap_disk.specs.Body.{most_bytes}
use Rattle.snap_disk.specs.Opened.{State}
use Rattle.snap_disk.specs.Open.{begun}
use Rattle.snap_disk.specs.Refusals.{WaitsUntil}
use Rattle.uci_tree.specs.declared.package.Package.{Package}
use Rattle.uci_tree.specs.Print.{printed}
use Rattle.uci_staged.specs.Change.{has_deltas, without}
use Rattle.uci_store.specs.declared.store.Store.{Store}
use Rattle.uci_store.specs.declared.store_error.StoreError.{StoreError}
use Rattle.uci_store.specs.declared.store_error.StoreError.TheVariants.{Snap, NoPackage, Parse, TooLarge, Memory}
use Rattle.uci_store.specs.Store.{names_of, files_of, staged_in, has_failed}
use Rattle.uci_store.specs.Refusals.{HasFile, HasNoFile, IsSeenAt, LacksReading, FileRefuses}

-- a package as its file is written: without a header, and without names of anonymous sections
abbrev pub file_text : Package → List ℕ
file_text tree = printed tree false false

-- the files once one of them is written
abbrev pub with_file : State → NewFile → State
with_file files new = begun files (new ∷ []) None

-- no call has failed, and no apply waits
pub record IsFree (store : Store) : Type 0 where
  pub ready : has_failed store ≡ false
  pub rests : (files_of store).waits ≡ None

-- a commit may be, but nothing is staged of the package
pub record NothingToCommit (store : Store) (holder : ℕ) (name : List ℕ) : Type 0 where
  pub free : IsFree store
  pub file : ℕ
  pub number : HasFile store name file
  pub nothing : has_deltas holder file (staged_in store) ≡ false

-- the file of a package of which the holder has staged something, as the holder sees it
pub record IsNewFile (store : Store) (holder : ℕ) (new : NewFile) : Type 0 where
  pub low : 2 ≤ new.file
  pub number : new.file < length (names_of store) + 2
  pub some : has_deltas holder new.file (staged_in store) ≡ true
  pub view : Package
  pub seen : IsSeenAt store holder new.file view
  pub text : new.bytes ≡ file_text view
  pub fits : length new.bytes ≤ most_bytes

-- what a commit of the package is to write
pub record IsCommitFile (store : Store) (holder : ℕ) (name : List ℕ) (new : NewFile) : Type 0 where
  pub number : HasFile store name new.file
  pub free : IsFree store
  pub is : IsNewFile store holder new

-- what is to be written, where something is staged of the package
abbrev pub PlansCommit : Store → ℕ → List ℕ → Option NewFile → Type 0
PlansCommit store holder name None = NothingToCommit store holder name
PlansCommit store holder name (Some new) = IsCommitFile store holder name new

-- what a package is to be written as in place of what is committed
pub record IsReplaceFile (store : Store) (tree : Package) (new : NewFile) : Type 0 where
  pub number : HasFile store tree.name new.file
  pub free : IsFree store
  pub text : new.bytes ≡ file_text tree
  pub fits : length new.bytes ≤ most_bytes

-- the files that the calls lead to
pub record CommitsTo (store : Store) (holder : ℕ) (name : List ℕ) (after : State) : Type 0 where
  pub new : NewFile
  pub written : IsCommitFile store holder name new
  pub files : after ≡ with_file (files_of store) new

pub record ReplacesTo (store : Store) (tree : Package) (after : State) : Type 0 where
  pub new : NewFile
  pub written : IsReplaceFile store tree new
  pub files : after ≡ with_file (files_of store) new

-- the file is written, and what the holder had staged of its package went
pub record HasWritten (old new : Store) (holder : ℕ) (file : NewFile) : Type 0 where
  pub files : files_of new ≡ with_file (files_of old) file
  pub staged : staged_in new ≡ without holder file.file (staged_in old)

-- nothing was staged, and nothing changed
pub record HasRested (old new : Store) (holder : ℕ) (name : List ℕ) : Type 0 where
  pub nothing : NothingToCommit old holder name
  pub files : files_of new ≡ files_of old
  pub staged : staged_in new ≡ staged_in old

-- what the holder sees of the package is written
pub record HasPrinted (old new : Store) (holder : ℕ) (name : List ℕ) : Type 0 where
  pub file : NewFile
  pub is : IsCommitFile old holder name file
  pub written : HasWritten old new holder file

-- a commit: nothing was staged of the package, or what the holder sees of it is written
abbrev pub HasCommitted : Store → Store → ℕ → List ℕ → Type 0
HasCommitted old new holder name = HasRested old new holder name ⊎ HasPrinted old new holder name

-- a package is written in place of what was committed
pub record HasReplaced (old new : Store) (holder : ℕ) (tree : Package) : Type 0 where
  pub file : NewFile
  pub is : IsReplaceFile old tree file
  pub written : HasWritten old new holder file

-- one of the disks failed, and that of staged changes only where the holder's are kept there
abbrev pub DiskRose : ℕ → View → View → View → View → Type 0
DiskRose holder files_old files_new staged_old staged_new =
    Rose files_old.faults files_new.faults ⊎ ((holder ≡ 0) × Rose staged_old.faults staged_new.faults)

-- an apply waits until then
abbrev pub IsWaiting : Store → ℕ → Type 0
IsWaiting store deadline = (has_failed store ≡ false) × WaitsUntil deadline (files_of store).waits

-- why a write is refused
abbrev pub WriteRefuses : ℕ → View → View → View → View → StoreError → Type 0
WriteRefuses holder files_old files_new staged_old staged_new error =
    ((error ≡ Snap DiskFailed) × DiskRose holder files_old files_new staged_old staged_new) ⊎ (error ≡ Memory)

-- why its parts are refused
abbrev pub PutRefuses : View → View → StoreError → Type 0
PutRefuses old new error = ((error ≡ Snap DiskFailed) × Rose old.faults new.faults) ⊎ (error ≡ Memory)

abbrev pub DropRefuses : ℕ → View → View → StoreError → Type 0
DropRefuses holder old new error = (error ≡ Snap DiskFailed) × (holder ≡ 0) × Rose old.faults new.faults

-- why a call waits for others
abbrev pub FreeRefuses : Store → StoreError → Type 0
FreeRefuses store error = (deadline : ℕ) × (error ≡ Snap (Waiting deadline)) × IsWaiting store deadline

-- the package does not fit into a file
pub record IsTooLarge (tree : Package) (bytes : ℕ) : Type 0 where
  pub size : bytes ≡ length (file_text tree)
  pub passes : most_bytes < bytes

-- why a package is not printed
abbrev pub PrintRefuses : Package → StoreError → Type 0
PrintRefuses tree error = ((bytes : ℕ) × (error ≡ TooLarge bytes) × IsTooLarge tree bytes) ⊎ (error ≡ Memory)

-- what the holder sees of the package of that file does not fit
pub record IsSeenTooLarge (store : Store) (holder file bytes : ℕ) : Type 0 where
  pub view : Package
  pub seen : IsSeenAt store holder file view
  pub large : IsTooLarge view bytes

-- why there is no new file of a package
abbrev pub NewFileRefuses : Store → ℕ → ℕ → StoreError → Type 0
NewFileRefuses store holder file error =
    FileRefuses store file error ⊎ ((bytes : ℕ) × (error ≡ TooLarge bytes) × IsSeenTooLarge store holder file bytes)

-- the package has a file of which that holds, may be written, and the holder has staged something of it
pub record OfStaged (store : Store) (holder : ℕ) (name : List ℕ) (P : ℕ → Type 0) : Type 0 where
  pub free : IsFree store
  pub file : ℕ
  pub number : HasFile store name file
  pub some : has_deltas holder file (staged_in store) ≡ true
  pub because : P file

-- the package has a file, and may be written
pub record OfFree (store : Store) (name : List ℕ) : Type 0 where
  pub free : IsFree store
  pub file : ℕ
  pub number : HasFile store name file

-- the package has a file, but an apply waits
pub record OfWaiting (store : Store) (name : List ℕ) (deadline : ℕ) : Type 0 where
  pub waits : IsWaiting store deadline
  pub file : ℕ
  pub number : HasFile store name file

-- why a commit is refused before it writes, in the order of these causes: a call has failed; no file has the name; an
-- apply waits; where something is staged, the file does not read, or what is seen does not fit
abbrev pub CommitStops : Store → ℕ → List ℕ → StoreError → Type 0
CommitStops store holder name (Snap Reopen) = has_failed store ≡ true
CommitStops store holder name NoPackage = (has_failed store ≡ false) × HasNoFile store name
CommitStops store holder name (Snap (Waiting deadline)) = OfWaiting store name deadline
CommitStops store holder name (Parse error) = OfStaged store holder name (λ file. LacksReading store file error)
CommitStops store holder name (TooLarge bytes) =
    OfStaged store holder name (λ file. IsSeenTooLarge store holder file bytes)
CommitStops store holder name Memory = OfStaged store holder name (λ file. Unit {0})
CommitStops store holder name error = ⊥

-- and a disk may fail where it writes
abbrev pub CommitRefuses : Store → ℕ → List ℕ → View → View → View → View → StoreError → Type 0
CommitRefuses store holder name files_old files_new staged_old staged_new error =
    CommitStops store holder name error
    ⊎ ((error ≡ Snap DiskFailed)
    × OfStaged store holder name (λ file. DiskRose holder files_old files_new staged_old staged_new))

-- why a replacement is refused before it writes, in the order of these causes
abbrev pub ReplaceStops : Store → Package → StoreError → Type 0
ReplaceStops store tree (Snap Reopen) = has_failed store ≡ true
ReplaceStops store tree NoPackage = (has_failed store ≡ false) × HasNoFile store tree.name
ReplaceStops store tree (Snap (Waiting deadline)) = OfWaiting store tree.name deadline
ReplaceStops store tree (TooLarge bytes) = OfFree store tree.name × IsTooLarge tree bytes
ReplaceStops store tree Memory = OfFree store tree.name
ReplaceStops store tree error = ⊥

-- and a disk may fail where it writes
abbrev pub ReplaceRefuses : Store → ℕ → Package → View → View → View → View → StoreError → Type 0
ReplaceRefuses store holder tree files_old files_new staged_old staged_new error =
    ReplaceStops store tree error
    ⊎ ((error ≡ Snap DiskFailed) × OfFree store tree.name × DiskRose holder files_old files_new staged_old staged_new)
