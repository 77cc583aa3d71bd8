-- Sets of names.
use Rattle.std.specs.Prelude.{ℕ, ◌≡◌, List, Bool, ◌||◌}
use Rattle.std.specs.Ordering.{nat_cmp}
use Rattle.std.specs.Cmp.Lexicographic.{slice_cmp}
use Rattle.std.specs.BTreeSet.{BTreeSet, contains}

-- a set has the names that a test tells
abbrev pub HasNames : BTreeSet (List ℕ) → (List ℕ → Bool) → Type 0
HasNames names test = (q : List ℕ) → contains (slice_cmp nat_cmp) names q ≡ test q

-- a set gains the names that a test tells
abbrev pub Adds : BTreeSet (List ℕ) → BTreeSet (List ℕ) → (List ℕ → Bool) → Type 0
Adds old new test = (q : List ℕ) → contains (slice_cmp nat_cmp) new q ≡ (contains (slice_cmp nat_cmp) old q || test q)
