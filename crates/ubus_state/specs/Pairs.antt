-- Pairs of numbers, found by the first one.
use Rattle.std.specs.Prelude.{ℕ, ◌≡◌, ◌==◌, List, Bool, map, filter}
use Rattle.std.specs.List.{list_any}
use Rattle.std.specs.Ordering.{nat_cmp, ordering_then}
use Rattle.std.specs.declared.cmp.Ordering.{Ordering}
use Rattle.std.specs.BTreeMap.{is_at}
use Rattle.std.specs.BTreeSet.{BTreeSet, contains}
use Rattle.ubus_table.specs.declared.rows.Object.{Object}

-- by the first number, and then by the second
abbrev pub pair_cmp : ℕ × ℕ → ℕ × ℕ → Ordering
pair_cmp one other = ordering_then (nat_cmp one.0 other.0) (nat_cmp one.1 other.1)

-- the number is the first of the pair
abbrev pub has_first : ℕ → ℕ × ℕ → Bool
has_first first pair = pair.0 == first

-- what stands beside a first number
abbrev pub seconds_in : ℕ → List (ℕ × ℕ) → List ℕ
seconds_in first pairs = map (λ (pair : ℕ × ℕ). pair.1) (filter (has_first first) pairs)

-- the set has the pairs of the list
abbrev pub HasPairs : BTreeSet (ℕ × ℕ) → List (ℕ × ℕ) → Type 0
HasPairs set pairs = (pair : ℕ × ℕ) → contains pair_cmp set pair ≡ list_any (is_at (pair_cmp pair)) pairs

-- the owner of an object, and its number
abbrev pub owner_pair : Object → ℕ × ℕ
owner_pair object = (object.owner, object.number)

-- the type of an object, and its number
abbrev pub type_pair : Object → ℕ × ℕ
type_pair object = (object.objtype, object.number)
