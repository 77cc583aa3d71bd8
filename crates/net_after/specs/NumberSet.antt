-- Numbers in a set, as the program keeps them.
use Rattle.std.specs.Prelude.{ℕ, ◌≡◌, ◌==◌, List}
use Rattle.std.specs.List.{list_any}
use Rattle.std.specs.Ordering.{nat_cmp}
use Rattle.std.specs.BTreeSet.{BTreeSet, contains}

-- the set has these numbers
abbrev pub HasNumbers : List ℕ → BTreeSet ℕ → Type 0
HasNumbers numbers set =
    (n : ℕ) → contains nat_cmp set n ≡ list_any (λ m. m == n) numbers
