-- Several changes of one package that a holder stages at once.
use Rattle.std.specs.Prelude.{ℕ, ◌≡◌, false, true, List, [], ◌∷◌, ◌++◌, Result, Ok, Err}
use Rattle.plane_words.specs.Causes.{Rose}
use Rattle.plane_disk.specs.View.{View}
use Rattle.snap_disk.specs.declared.snap_error.SnapError.TheVariants.{DiskFailed, Reopen}
use Rattle.uci_tree.specs.declared.package.Package.{Package}
use Rattle.uci_delta.specs.declared.delta.Delta.{Delta}
use Rattle.uci_delta.specs.declared.delta_error.DeltaError.{DeltaError}
use Rattle.uci_delta.specs.Applied.{applied}
use Rattle.uci_staged.specs.Change.{changes_at}
use Rattle.uci_store.specs.declared.store.Store.{Store}
use Rattle.uci_store.specs.declared.store_error.StoreError.{StoreError}
use Rattle.uci_store.specs.declared.store_error.StoreError.TheVariants.{Snap, NoPackage, Parse, Delta as NotTaken}
use Rattle.uci_store.specs.declared.store_error.StoreError.TheVariants.{Memory}
use Rattle.uci_store.specs.Store.{names_of, files_of, staged_in, has_failed}
use Rattle.uci_store.specs.Refusals.{HasFile, HasNoFile, HasSomeFile, IsSeenAt, IsSeen, DoesNotRead}

-- the delta is one of the package of that name
abbrev pub IsOf : List ℕ → Delta → Type 0
IsOf name delta = delta.package ≡ name

-- a delta more, where none was refused before
abbrev pub next_taken : Result Package DeltaError → Delta → Result Package DeltaError
next_taken (Ok tree) delta = applied tree delta
next_taken (Err error) delta = Err error

abbrev pub taken_from : Result Package DeltaError → List Delta → Result Package DeltaError
taken_from so_far [] = so_far
taken_from so_far (delta ∷ deltas) = taken_from (next_taken so_far delta) deltas

-- the package with the deltas one after another, or why the first of them that it does not take is refused
abbrev pub all_taken : Package → List Delta → Result Package DeltaError
all_taken tree deltas = taken_from (Ok tree) deltas

-- the view took the deltas one after another, and they are the holder's last changes now
pub record HasStagedBatch (old new : Store) (holder : ℕ) (name : List ℕ) (deltas : List Delta) : Type 0 where
  pub ready : has_failed old ≡ false
  pub file : ℕ
  pub number : HasFile old name file
  pub view : Package
  pub seen : IsSeenAt old holder file view
  pub taken : Package
  pub takes : all_taken view deltas ≡ Ok taken
  pub staged : staged_in new ≡ staged_in old ++ changes_at holder file deltas

-- the view does not take one of the deltas, and this is why the first of those is refused
pub record DoesNotTakeBatch (store : Store) (holder : ℕ) (name : List ℕ) (deltas : List Delta) (error : DeltaError)
    : Type 0 where
  pub view : Package
  pub seen : IsSeen store holder name view
  pub refused : all_taken view deltas ≡ Err error

-- the view takes the deltas one after another
pub record TakesBatch (store : Store) (holder : ℕ) (name : List ℕ) (deltas : List Delta) : Type 0 where
  pub view : Package
  pub seen : IsSeen store holder name view
  pub taken : Package
  pub takes : all_taken view deltas ≡ Ok taken

-- why none of the deltas is staged, with the views of the staged disk before and after
abbrev pub BatchRefuses : Store → ℕ → List ℕ → List Delta → View → View → StoreError → Type 0
BatchRefuses store holder name deltas old new (Snap Reopen) = has_failed store ≡ true
BatchRefuses store holder name deltas old new NoPackage = (has_failed store ≡ false) × HasNoFile store name
BatchRefuses store holder name deltas old new (Parse error) = (has_failed store ≡ false) × DoesNotRead store name error
BatchRefuses store holder name deltas old new (NotTaken error) = (has_failed store ≡ false)
    × DoesNotTakeBatch store holder name deltas error
BatchRefuses store holder name deltas old new (Snap DiskFailed) = (has_failed store ≡ false) × (holder ≡ 0)
    × TakesBatch store holder name deltas × Rose old.faults new.faults
BatchRefuses store holder name deltas old new Memory = (has_failed store ≡ false) × HasSomeFile store name
BatchRefuses store holder name deltas old new error = ⊥

-- the packages as they are committed are those of another store
pub record HasSameFiles (old new : Store) : Type 0 where
  pub names : names_of new ≡ names_of old
  pub files : files_of new ≡ files_of old
