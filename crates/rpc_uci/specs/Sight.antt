-- What a call sees of packages.
use Rattle.std.specs.Prelude.{ℕ, ◌≡◌, ◌⊎◌, List, [], ◌∷◌, Option, Some, None, Result, Ok, Err, Bool, true, false}
use Rattle.std.specs.Prelude.{filter}
use Rattle.uci_tree.specs.declared.package.Package.{Package}
use Rattle.uci_tree.specs.declared.tree_error.TreeError.{TreeError}
use Rattle.uci_delta.specs.declared.delta.Delta.{Delta}
use Rattle.uci_staged.specs.Change.{deltas_in}
use Rattle.uci_store.specs.declared.store.Store.{Store}
use Rattle.uci_store.specs.Store.{names_of, staged_in, file_of}
use Rattle.uci_store.specs.Refusals.{HasNoFile, DoesNotRead, IsSeen}
use Rattle.rpc_rules.specs.Status.{bad_argument, not_found}

-- what the holder has staged of the package of a name: nothing where no file has the name
abbrev pub deltas_at : Option ℕ → ℕ → Store → List Delta
deltas_at None holder store = []
deltas_at (Some file) holder store = deltas_in holder file (staged_in store)

abbrev pub deltas_named : ℕ → Store → List ℕ → List Delta
deltas_named holder store name = deltas_at (file_of (names_of store) name) holder store

abbrev pub are_some : List Delta → Bool
are_some [] = false
are_some (delta ∷ deltas) = true

-- the packages of which the holder has staged something
abbrev pub staged_names : ℕ → Store → List (List ℕ)
staged_names holder store = filter (λ name. are_some (deltas_named holder store name)) (names_of store)

-- why a package is not seen: no file has its name, or its file does not read
abbrev pub IsUnseen : Store → List ℕ → ℕ → Type 0
IsUnseen store name status =
    (HasNoFile store name × (status ≡ not_found)) ⊎
    ((error : TreeError) × DoesNotRead store name error × (status ≡ bad_argument))

-- what the holder sees of the package of a name, or the status of a call that asks for it
abbrev pub Sees : Store → ℕ → List ℕ → Result Package ℕ → Type 0
Sees store holder name (Ok view) = IsSeen store holder name view
Sees store holder name (Err status) = IsUnseen store name status
