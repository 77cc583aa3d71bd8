-- What staging a change leaves, and taking changes back.
use Rattle.std.specs.Prelude.{ℕ, ◌≡◌, Bool, true, false, List, [], ◌∷◌, ◌++◌, Some, Result, Ok, Err}
use Rattle.plane_disk.specs.Files.{Files, bytes_of}
use Rattle.plane_disk.specs.View.{View}
use Rattle.snap_disk.specs.declared.snap_error.SnapError.TheVariants.{DiskFailed}
use Rattle.uci_tree.specs.declared.package.Package.{Package}
use Rattle.uci_tree.specs.declared.path.Path.{Path}
use Rattle.uci_delta.specs.declared.delta.Delta.{Delta}
use Rattle.uci_delta.specs.Applied.{applied}
use Rattle.uci_staged.specs.Change.{reverted}
use Rattle.uci_staged.specs.Kept.{IsKeptAt}
use Rattle.uci_store.specs.declared.store.Store.{Store}
use Rattle.uci_store.specs.declared.store_error.StoreError.{StoreError}
use Rattle.uci_store.specs.declared.store_error.StoreError.TheVariants.{Snap}
use Rattle.uci_store.specs.Store.{staged_in, has_failed}
use Rattle.uci_store.specs.Refusals.{HasFile, IsSeenAt}

-- the view took the delta, and it is the holder's last change now
pub record HasStaged (old new : Store) (holder : ℕ) (delta : Delta) : Type 0 where
  pub ready : has_failed old ≡ false
  pub file : ℕ
  pub number : HasFile old delta.package file
  pub view : Package
  pub seen : IsSeenAt old holder file view
  pub taken : Package
  pub takes : applied view delta ≡ Ok taken
  pub staged : staged_in new ≡ staged_in old ++ record { holder = holder; file = file; delta = delta } ∷ []

-- what lies under the path went, and the others stayed
pub record HasReverted (old new : Store) (holder : ℕ) (path : Path) : Type 0 where
  pub ready : has_failed old ≡ false
  pub file : ℕ
  pub number : HasFile old path.package file
  pub staged : staged_in new ≡ reverted holder file path (staged_in old)

-- of the files that the disk of staged changes told, that of the package alone may be another
abbrev pub ChangesPackage : Store → List ℕ → View → View → Type 0
ChangesPackage store name old new = (files now : Files) → old.seen ≡ Some files → new.seen ≡ Some now
    → (other : ℕ) → (HasFile store name other → ⊥) → bytes_of now other ≡ bytes_of files other

-- where the holder is 0, the package's file there has now the lines of what holder 0 has staged of it
abbrev pub IsKeptOf : Store → ℕ → List ℕ → View → View → Type 0
IsKeptOf store holder name old new = (file : ℕ) → HasFile store name file
    → IsKeptAt holder file old new (staged_in store)

-- a call that a disk failed leaves a store that refuses calls on disks, and any other leaves it as it was
abbrev pub IsWhole : {X : Type 0} → Result X StoreError → Bool → Bool → Type 0
IsWhole (Ok x) old new = new ≡ old
IsWhole (Err (Snap DiskFailed)) old new = new ≡ true
IsWhole (Err error) old new = new ≡ old
