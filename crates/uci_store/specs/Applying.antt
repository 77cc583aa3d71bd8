-- What an apply leaves, and why it is refused.
use Rattle.std.specs.Prelude.{ℕ, ◌≡◌, ◌≤◌, ◌<◌, ◌+◌, ◌⊎◌, true, false, List, length, Option, Some, None}
use Rattle.std.specs.List.{AllByRecursion}
use Rattle.std.specs.Option.{option_map}
use Rattle.plane_disk.specs.View.{View}
use Rattle.snap_disk.specs.declared.new_file.NewFile.{NewFile}
use Rattle.snap_disk.specs.declared.new_file.Pending.{Pending}
use Rattle.snap_disk.specs.declared.snap_error.SnapError.TheVariants.{DiskFailed, Waiting, Reopen}
use Rattle.snap_disk.specs.Body.{most_bytes}
use Rattle.snap_disk.specs.Opened.{State}
use Rattle.snap_disk.specs.Open.{begun}
use Rattle.snap_disk.specs.Phase.{Stands}
use Rattle.uci_tree.specs.declared.package.Package.{Package}
use Rattle.uci_tree.specs.declared.tree_error.TreeError.{TreeError}
use Rattle.uci_staged.specs.Change.{has_deltas, has_staged, forgotten}
use Rattle.uci_store.specs.declared.store.Store.{Store}
use Rattle.uci_store.specs.declared.store_error.StoreError.{StoreError}
use Rattle.uci_store.specs.declared.store_error.StoreError.TheVariants.{Snap, Parse, TooLarge, NothingStaged, Memory}
use Rattle.uci_store.specs.Store.{names_of, files_of, staged_in, has_failed}
use Rattle.uci_store.specs.Refusals.{IsSeenAt, LacksReading}
use Rattle.uci_store.specs.Committing.{file_text, IsFree, IsNewFile, IsWaiting, IsSeenTooLarge, DiskRose}

-- of each package before that file of which the holder has staged something this holds
abbrev pub EachBefore : Store → ℕ → ℕ → (ℕ → Type 0) → Type 0
EachBefore store holder file P = (k : ℕ) → 2 ≤ k → k < file → has_deltas holder k (staged_in store) ≡ true → P k

-- the package of that file reads
abbrev pub HasView : Store → ℕ → ℕ → Type 0
HasView store holder file = (view : Package) × IsSeenAt store holder file view

-- and what the holder sees of it fits into a file
pub record HasSmallView (store : Store) (holder file : ℕ) : Type 0 where
  pub view : Package
  pub seen : IsSeenAt store holder file view
  pub fits : length (file_text view) ≤ most_bytes

-- the files of all packages of which the holder has staged something, as the holder sees them
pub record AreNewFiles (store : Store) (holder : ℕ) (new : List NewFile) : Type 0 where
  pub free : IsFree store
  pub some : has_staged holder (staged_in store) ≡ true
  pub each : AllByRecursion (IsNewFile store holder) new
  pub all : EachBefore store holder (length (names_of store) + 2) (Stands new)

-- a package of which something is staged does not read, and those before it do
pub record IsFirstUnread (store : Store) (holder : ℕ) (error : TreeError) : Type 0 where
  pub file : ℕ
  pub low : 2 ≤ file
  pub number : file < length (names_of store) + 2
  pub some : has_deltas holder file (staged_in store) ≡ true
  pub fault : LacksReading store file error
  pub before : EachBefore store holder file (HasView store holder)

-- what is seen of one does not fit, while those before it do
pub record IsFirstLarge (store : Store) (holder bytes : ℕ) : Type 0 where
  pub file : ℕ
  pub low : 2 ≤ file
  pub number : file < length (names_of store) + 2
  pub some : has_deltas holder file (staged_in store) ≡ true
  pub large : IsSeenTooLarge store holder file bytes
  pub before : EachBefore store holder file (HasSmallView store holder)

-- all of them read, and one does not fit
pub record AreReadAndLarge (store : Store) (holder bytes : ℕ) : Type 0 where
  pub read : EachBefore store holder (length (names_of store) + 2) (HasView store holder)
  pub first : IsFirstLarge store holder bytes

-- new files of these packages, or the size of the first that does not fit
abbrev pub FoundSoFar : Store → ℕ → ℕ → List NewFile → Option ℕ → Type 0
FoundSoFar store holder file new None = AllByRecursion (IsNewFile store holder) new
    × EachBefore store holder file (Stands new)
FoundSoFar store holder file new (Some bytes) = IsFirstLarge store holder bytes

-- the packages before that file, of which the holder has staged something, were gone through
pub record AreSoFar (store : Store) (holder file : ℕ) (new : List NewFile) (large : Option ℕ) : Type 0 where
  pub read : EachBefore store holder file (HasView store holder)
  pub found : FoundSoFar store holder file new large

-- until when an apply of the holder waits, where it has a deadline
abbrev pub wait_of : ℕ → Option ℕ → Option Pending
wait_of holder deadline = option_map (λ moment. record { deadline = moment; holder = holder }) deadline

-- the files that an apply leads to: all of these at once
pub record AppliesTo (store : Store) (holder : ℕ) (deadline : Option ℕ) (after : State) : Type 0 where
  pub new : List NewFile
  pub written : AreNewFiles store holder new
  pub files : after ≡ begun (files_of store) new (wait_of holder deadline)

-- files are written, and all that the holder had staged went
pub record HasWrittenAll (old new : Store) (holder : ℕ) (written : List NewFile) (wait : Option Pending) : Type 0 where
  pub files : files_of new ≡ begun (files_of old) written wait
  pub staged : staged_in new ≡ forgotten holder (staged_in old)

-- the files that an apply leads to are written, and all that the holder had staged went
pub record HasApplied (old new : Store) (holder : ℕ) (deadline : Option ℕ) : Type 0 where
  pub leads : AppliesTo old holder deadline (files_of new)
  pub staged : staged_in new ≡ forgotten holder (staged_in old)

-- why there are no new files, in the order of these causes: one of the packages does not read; they do, and one does
-- not fit
abbrev pub NewFilesRefuse : Store → ℕ → StoreError → Type 0
NewFilesRefuse store holder error =
    ((fault : TreeError) × (error ≡ Parse fault) × IsFirstUnread store holder fault)
    ⊎ ((bytes : ℕ) × (error ≡ TooLarge bytes) × AreReadAndLarge store holder bytes) ⊎ (error ≡ Memory)

-- why an apply is refused before it writes, in the order of these causes: a call has failed; an apply waits; the holder
-- has staged nothing; there are no new files
abbrev pub ApplyStops : Store → ℕ → StoreError → Type 0
ApplyStops store holder (Snap Reopen) = has_failed store ≡ true
ApplyStops store holder (Snap (Waiting deadline)) = IsWaiting store deadline
ApplyStops store holder NothingStaged = IsFree store × (has_staged holder (staged_in store) ≡ false)
ApplyStops store holder (Parse error) = IsFree store × IsFirstUnread store holder error
ApplyStops store holder (TooLarge bytes) = IsFree store × AreReadAndLarge store holder bytes
ApplyStops store holder Memory = IsFree store × (has_staged holder (staged_in store) ≡ true)
ApplyStops store holder error = ⊥

-- and a disk may fail where it writes
abbrev pub ApplyRefuses : Store → ℕ → View → View → View → View → StoreError → Type 0
ApplyRefuses store holder files_old files_new staged_old staged_new error =
    ApplyStops store holder error
    ⊎ ((error ≡ Snap DiskFailed) × IsFree store × (has_staged holder (staged_in store) ≡ true)
    × DiskRose holder files_old files_new staged_old staged_new)
