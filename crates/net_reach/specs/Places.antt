-- Places of items in a list.
use Rattle.std.specs.Prelude.{ℕ, List, [], ◌∷◌, ◌++◌, suc, fold, Bool, not, ◌&&◌, ◌==◌, if◌then◌else◌, nat_lt}
use Rattle.std.specs.List.{list_any}

-- places below a bound
pub record Places : Type 0 where
  pub bound : ℕ
  pub list : List ℕ

-- a place is in a list
abbrev pub has : List ℕ → ℕ → Bool
has list place = list_any (λ other. place == other) list

-- with a place below the bound, at the end where it is not among them
abbrev pub with_place : Places → ℕ → Places
with_place set place =
    if nat_lt place set.bound && not (has set.list place)
    then record set { list = set.list ++ place ∷ [] } else set

-- with places, one after the other
abbrev pub with_places : Places → List ℕ → Places
with_places set places = fold with_place set places

-- the places of the items that a test tells, rising, where those before them are counted
abbrev pub places_from : {X : Type 0} → ℕ → (X → Bool) → List X → List ℕ
places_from count test [] = []
places_from count test (x ∷ xs) =
    if test x then count ∷ places_from (suc count) test xs else places_from (suc count) test xs

-- the places of the items that a test tells, rising
abbrev pub places_by : {X : Type 0} → (X → Bool) → List X → List ℕ
places_by test xs = places_from 0 test xs
