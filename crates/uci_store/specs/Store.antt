-- A store, and the two disks on which it was opened.
use Rattle.std.specs.Prelude.{ℕ, ◌≡◌, ◌+◌, ◌-◌, Bool, false, List, [], length, drop, slice_index_or, Option, bytes_eq}
use Rattle.std.specs.Prelude.{position}
use Rattle.std.specs.List.{AllByRecursion}
use Rattle.std.specs.Option.{option_map}
use Rattle.plane_disk.specs.Files.{bytes_of}
use Rattle.plane_disk.specs.View.{View}
use Rattle.snap_disk.specs.declared.snap.Snap.{Snap}
use Rattle.snap_disk.specs.Opened.{State, IsWithin}
use Rattle.snap_disk.specs.Open.{IsOpenOn, state_of}
use Rattle.snap_disk.specs.Refusals.{IsGood}
use Rattle.uci_text.specs.declared.byte_class.ByteClass.TheVariants.{PackageName}
use Rattle.uci_text.specs.Table.{IsNameOf}
use Rattle.uci_staged.specs.declared.change.StagedChange.{StagedChange}
use Rattle.uci_staged.specs.Kept.{changes_of, AreStagedIn, AreKept}
use Rattle.uci_store.specs.declared.store.Store.{Store}

-- the names of the packages, in byte order
abbrev pub names_of : Store → List (List ℕ)
names_of store = store.packages.items

-- what is committed, and what waits
abbrev pub snap_of : Store → Snap
snap_of store = store.snap

abbrev pub files_of : Store → State
files_of store = state_of store.snap

-- what holders have staged
abbrev pub staged_in : Store → List StagedChange
staged_in store = changes_of store.staged

-- a call on a disk has failed
abbrev pub has_failed : Store → Bool
has_failed store = store.failed

-- the number of the file of a package
abbrev pub file_of : List (List ℕ) → List ℕ → Option ℕ
file_of names name = option_map (λ place. place + 2) (position (λ other. bytes_eq other name) names)

-- the name of the package of a file
abbrev pub name_of : List (List ℕ) → ℕ → List ℕ
name_of names file = slice_index_or names (file - 2) []

-- the text of a file
abbrev pub text_of : State → ℕ → List ℕ
text_of files file = bytes_of files.packages (file - 2)

-- what holds of every store that was opened
pub record IsStore (store : Store) : Type 0 where
  pub counted : length (names_of store) ≡ length (files_of store).packages
  pub within : IsWithin (files_of store).packages
  pub named : AllByRecursion (IsNameOf PackageName) (names_of store)

-- the disk of the files, as the calls of the store left it
pub record IsOnFiles (store : Store) (view : View) : Type 0 where
  pub is : IsStore store
  pub names : drop 2 view.names ≡ names_of store
  pub count : length view.names ≡ length (names_of store) + 2
  pub snap : IsOpenOn (snap_of store) view
  pub ready : has_failed store ≡ false → IsGood (snap_of store)

-- the disk of the command line's staged changes; once a call has failed nothing is known of its texts
pub record IsOnStaged (store : Store) (view : View) : Type 0 where
  pub is : IsStore store
  pub names : drop 2 view.names ≡ names_of store
  pub count : length view.names ≡ length (names_of store) + 2
  pub lines : AreStagedIn view.names (staged_in store)
  pub kept : has_failed store ≡ false → AreKept view (staged_in store)
