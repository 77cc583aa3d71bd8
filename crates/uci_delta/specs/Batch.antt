-- Deltas that are applied one after another, and what is kept while they are.
use Rattle.std.specs.Prelude.{ℕ, ◌≡◌, List, [], ◌∷◌, take, Result, Ok, Err}
use Rattle.uci_tree.specs.declared.package.Package.{Package}
use Rattle.uci_delta.specs.declared.batch.Batch.{Batch}
use Rattle.uci_delta.specs.declared.delta.Delta.{Delta}
use Rattle.uci_delta.specs.declared.delta_error.DeltaError.{DeltaError}
use Rattle.uci_delta.specs.Applied.{applied}

-- what comes of it, and what was before where it is refused
abbrev pub or_before : {X : Type 0} → X → Result X DeltaError → X
or_before before (Ok after) = after
or_before before (Err error) = before

-- the package with the deltas one after another, where one that is refused is passed over
abbrev pub all_applied : Package → List Delta → Package
all_applied tree [] = tree
all_applied tree (delta ∷ deltas) = all_applied (or_before tree (applied tree delta)) deltas

-- the package with a front of the deltas, perhaps none or all
pub record HasFrontApplied (old : Package) (deltas : List Delta) (new : Package) : Type 0 where
  pub count : ℕ
  pub are : new ≡ all_applied old (take count deltas)

-- the package of this name so far
abbrev pub tree_of : List ℕ → Batch → Package
tree_of name batch = record { name = name; sections = batch.sections.items; made = batch.made }
