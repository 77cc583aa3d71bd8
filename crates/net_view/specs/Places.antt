-- Places of names in a list.
use Rattle.std.specs.Prelude.{ℕ, ◌≡◌, ◌==◌, List, Bool, false, Option, Some, None, bytes_eq, position}
use Rattle.std.specs.List.{find}
use Rattle.std.specs.Ordering.{nat_cmp}
use Rattle.std.specs.Cmp.Lexicographic.{slice_cmp}
use Rattle.std.specs.BTreeMap.{BTreeMap, get}

-- the place of a name, which is that of the first where it stands several times
abbrev pub place_of : List (List ℕ) → List ℕ → Option ℕ
place_of names name = position (λ other. bytes_eq other name) names

-- a map has the places of these names
abbrev pub HasPlaces : BTreeMap (List ℕ) ℕ → List (List ℕ) → Type 0
HasPlaces places names = (name : List ℕ) → get (slice_cmp nat_cmp) places name ≡ place_of names name

abbrev pub is_place : ℕ → Option ℕ → Bool
is_place place None = false
is_place place (Some other) = other == place

-- the first of a name
abbrev pub named : {X : Type 0} → (X → List ℕ) → List X → List ℕ → Option X
named key xs name = find (λ x. bytes_eq (key x) name) xs
