-- What is seen of a package, and why it is not seen.
use Rattle.std.specs.Prelude.{ℕ, ◌≡◌, ◌⊎◌, true, false, List, Some, None, Ok, Err}
use Rattle.snap_disk.specs.declared.snap_error.SnapError.TheVariants.{DiskFailed, Reopen}
use Rattle.plane_words.specs.Causes.{Rose}
use Rattle.plane_disk.specs.View.{View}
use Rattle.uci_tree.specs.declared.package.Package.{Package}
use Rattle.uci_tree.specs.declared.tree_error.TreeError.{TreeError}
use Rattle.uci_tree.specs.Reading.{Reads, HasTreeFault}
use Rattle.uci_delta.specs.declared.delta.Delta.{Delta}
use Rattle.uci_delta.specs.declared.delta_error.DeltaError.{DeltaError}
use Rattle.uci_delta.specs.Applied.{applied}
use Rattle.uci_delta.specs.Batch.{all_applied}
use Rattle.uci_staged.specs.Change.{deltas_in}
use Rattle.uci_store.specs.declared.store.Store.{Store}
use Rattle.uci_store.specs.declared.store_error.StoreError.{StoreError}
use Rattle.uci_store.specs.declared.store_error.StoreError.TheVariants.{Snap, NoPackage, Parse, Delta as NotTaken}
use Rattle.uci_store.specs.declared.store_error.StoreError.TheVariants.{Memory}
use Rattle.uci_store.specs.Store.{names_of, files_of, staged_in, has_failed, file_of, name_of, text_of}

-- a call has failed before
abbrev pub IsReopen : Store → StoreError → Type 0
IsReopen store error = (error ≡ Snap Reopen) × (has_failed store ≡ true)

-- the package has that file
abbrev pub HasFile : Store → List ℕ → ℕ → Type 0
HasFile store name file = file_of (names_of store) name ≡ Some file

-- no file has the name
abbrev pub HasNoFile : Store → List ℕ → Type 0
HasNoFile store name = file_of (names_of store) name ≡ None

-- the package has a file
abbrev pub HasSomeFile : Store → List ℕ → Type 0
HasSomeFile store name = (file : ℕ) × HasFile store name file

-- the package of that file as it is committed
abbrev pub ReadsAt : Store → ℕ → Package → Type 0
ReadsAt store file tree = Reads (name_of (names_of store) file) (text_of (files_of store) file) tree

-- the package of that file as the holder sees it: what the holder has staged of it, applied in its order, where what is
-- refused is passed over
pub record IsSeenAt (store : Store) (holder file : ℕ) (view : Package) : Type 0 where
  pub base : Package
  pub reads : ReadsAt store file base
  pub is : view ≡ all_applied base (deltas_in holder file (staged_in store))

-- the package of that name as it is committed
pub record IsCommitted (store : Store) (name : List ℕ) (tree : Package) : Type 0 where
  pub file : ℕ
  pub number : HasFile store name file
  pub reads : ReadsAt store file tree

-- and as the holder sees it
pub record IsSeen (store : Store) (holder : ℕ) (name : List ℕ) (view : Package) : Type 0 where
  pub file : ℕ
  pub number : HasFile store name file
  pub seen : IsSeenAt store holder file view

-- the package of that file does not read
abbrev pub LacksReading : Store → ℕ → TreeError → Type 0
LacksReading store file error = HasTreeFault (text_of (files_of store) file) error

-- why the package of a file is not read
abbrev pub FileRefuses : Store → ℕ → StoreError → Type 0
FileRefuses store file error = ((fault : TreeError) × (error ≡ Parse fault) × LacksReading store file fault) ⊎
    (error ≡ Memory)

-- the package's file does not read
pub record DoesNotRead (store : Store) (name : List ℕ) (error : TreeError) : Type 0 where
  pub file : ℕ
  pub number : HasFile store name file
  pub fault : LacksReading store file error

-- why a package is not read
abbrev pub ReadRefuses : Store → List ℕ → StoreError → Type 0
ReadRefuses store name NoPackage = HasNoFile store name
ReadRefuses store name (Parse error) = DoesNotRead store name error
ReadRefuses store name Memory = HasSomeFile store name
ReadRefuses store name error = ⊥

-- what the holder has staged of the package
pub record AreChanges (store : Store) (holder : ℕ) (name : List ℕ) (deltas : List Delta) : Type 0 where
  pub file : ℕ
  pub number : HasFile store name file
  pub are : deltas ≡ deltas_in holder file (staged_in store)

abbrev pub ChangesRefuse : Store → List ℕ → StoreError → Type 0
ChangesRefuse store name NoPackage = HasNoFile store name
ChangesRefuse store name Memory = HasSomeFile store name
ChangesRefuse store name error = ⊥

-- the view does not take the delta
pub record DoesNotTake (store : Store) (holder : ℕ) (delta : Delta) (error : DeltaError) : Type 0 where
  pub view : Package
  pub seen : IsSeen store holder delta.package view
  pub refused : applied view delta ≡ Err error

-- the view takes the delta
pub record Takes (store : Store) (holder : ℕ) (delta : Delta) : Type 0 where
  pub view : Package
  pub seen : IsSeen store holder delta.package view
  pub taken : Package
  pub takes : applied view delta ≡ Ok taken

-- why a delta is not staged, with the views of the staged disk before and after
abbrev pub StageRefuses : Store → ℕ → Delta → View → View → StoreError → Type 0
StageRefuses store holder delta old new (Snap Reopen) = has_failed store ≡ true
StageRefuses store holder delta old new NoPackage = (has_failed store ≡ false) × HasNoFile store delta.package
StageRefuses store holder delta old new (Parse error) = (has_failed store ≡ false)
    × DoesNotRead store delta.package error
StageRefuses store holder delta old new (NotTaken error) = (has_failed store ≡ false)
    × DoesNotTake store holder delta error
StageRefuses store holder delta old new (Snap DiskFailed) = (has_failed store ≡ false) × (holder ≡ 0)
    × Takes store holder delta × Rose old.faults new.faults
StageRefuses store holder delta old new Memory = (has_failed store ≡ false) × HasSomeFile store delta.package
StageRefuses store holder delta old new error = ⊥

-- why nothing is reverted
abbrev pub RevertRefuses : Store → ℕ → List ℕ → View → View → StoreError → Type 0
RevertRefuses store holder name old new (Snap Reopen) = has_failed store ≡ true
RevertRefuses store holder name old new NoPackage = (has_failed store ≡ false) × HasNoFile store name
RevertRefuses store holder name old new (Snap DiskFailed) = (has_failed store ≡ false) × (holder ≡ 0)
    × HasSomeFile store name × Rose old.faults new.faults
RevertRefuses store holder name old new Memory = (has_failed store ≡ false) × HasSomeFile store name
RevertRefuses store holder name old new error = ⊥
