-- Changes that are staged at once, each taken by what the holder sees behind those before it.
use Rattle.std.specs.Prelude.{ℕ, ◌≡◌, ◌<◌, List, length, [], ◌∷◌, Result, Ok, Err, Bool, true, false}
use Rattle.plane_words.specs.Causes.{Rose}
use Rattle.plane_disk.specs.View.{View}
use Rattle.uci_tree.specs.declared.package.Package.{Package}
use Rattle.uci_delta.specs.declared.delta.Delta.{Delta}
use Rattle.uci_delta.specs.Applied.{applied}
use Rattle.uci_store.specs.declared.store.Store.{Store}
use Rattle.uci_store.specs.Refusals.{HasFile, IsSeenAt}
use Rattle.rpc_rules.specs.declared.rpc_error.RpcError.{RpcError}
use Rattle.rpc_rules.specs.declared.rpc_error.RpcError.TheVariants.{Status, Denied, DiskFailed, Memory}

-- the package takes the deltas one after another, all of them deltas of that name
abbrev pub TakesAll : List ℕ → Package → List Delta → Type 0
TakesAll name tree [] = Unit {0}
TakesAll name tree (delta ∷ deltas) = (delta.package ≡ name)
    × ((next : Package) × (applied tree delta ≡ Ok next) × TakesAll name next deltas)

-- what the holder sees of the package of that name takes them
pub record IsStageable (store : Store) (holder : ℕ) (name : List ℕ) (deltas : List Delta) : Type 0 where
  pub file : ℕ
  pub number : HasFile store name file
  pub view : Package
  pub seen : IsSeenAt store holder file view
  pub takes : TakesAll name view deltas

-- a disk failed where something was to be staged, or there was no memory
abbrev pub IsCut : List Delta → RpcError → Type 0
IsCut deltas (Status status) = ⊥
IsCut deltas (Denied grant) = ⊥
IsCut deltas DiskFailed = 0 < length deltas
IsCut deltas Memory = Unit {0}

-- where a disk failed its count rose, and the store refuses calls from then on; else no call has failed
abbrev pub HasCause : {X : Type 0} → Result X RpcError → Bool → View → View → Type 0
HasCause (Ok x) failed old new = failed ≡ false
HasCause (Err (Status status)) failed old new = failed ≡ false
HasCause (Err (Denied grant)) failed old new = failed ≡ false
HasCause (Err DiskFailed) failed old new = (failed ≡ true) × Rose old.faults new.faults
HasCause (Err Memory) failed old new = failed ≡ false
