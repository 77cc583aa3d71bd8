-- The names that `device` sections have, kept while a package is gone through.
use Rattle.std.specs.Prelude.{ℕ, ◌≡◌, ◌||◌, Bool, List}
use Rattle.std.specs.Ordering.{nat_cmp}
use Rattle.std.specs.Cmp.Lexicographic.{slice_cmp}
use Rattle.std.specs.BTreeSet.{BTreeSet, contains}
use Rattle.uci_tree.specs.declared.package.Section.{Section}
use Rattle.net_modern.specs.Rules.{has_device}

-- the set has the name
abbrev pub is_among : BTreeSet (List ℕ) → List ℕ → Bool
is_among names name = contains (slice_cmp nat_cmp) names name

-- the set has the names of the `device` sections
abbrev pub AreNames : BTreeSet (List ℕ) → List Section → Type 0
AreNames names sections = (name : List ℕ) → is_among names name ≡ has_device sections name

-- the set has the names that it had, and those of these `device` sections
abbrev pub AddsNames : BTreeSet (List ℕ) → BTreeSet (List ℕ) → List Section → Type 0
AddsNames old new sections = (name : List ℕ) → is_among new name ≡ (is_among old name || has_device sections name)
