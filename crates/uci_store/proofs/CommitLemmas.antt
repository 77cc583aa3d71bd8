-- Why packages are not written.
use Rattle.std.proofs.Common.{ℕ, sym, subst}
use Rattle.uci_tree.specs.declared.package.Package.{Package}
use Rattle.uci_store.specs.declared.store.Store.{Store}
use Rattle.uci_store.specs.declared.store_error.StoreError.{StoreError}
use Rattle.uci_store.specs.Refusals.{HasFile}
use Rattle.uci_store.specs.Committing.{FreeRefuses, OfWaiting, ReplaceStops}

-- an apply waits
pub replace_waits : (store : Store) (tree : Package) (file : ℕ) (error : StoreError) → HasFile store tree.name file → FreeRefuses store error → ReplaceStops store tree error
replace_waits store tree file error number h =
    let d : OfWaiting store tree.name h.0 = record { waits = h.2; file = file; number = number } in
    subst (ReplaceStops store tree) (sym h.1) d
