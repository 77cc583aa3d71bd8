-- Lists of places by name.
use Rattle.std.specs.Prelude.{ℕ, ◌≡◌, ◌<◌, ◌-◌, ◌==◌, List, [], ◌∷◌, ◌++◌, filter, length, Bool, not, if◌then◌else◌}
use Rattle.std.specs.Prelude.{Contains, Some, true, Vec, vec_len, vec_capacity}
use Rattle.std.specs.List.{slice_get}
use Rattle.std.specs.Ordering.{nat_cmp}
use Rattle.std.specs.Cmp.Lexicographic.{slice_cmp}
use Rattle.std.specs.BTreeMap.{BTreeMap, get}
use Rattle.std.specs.declared.alloc.Global.{Global}
use Rattle.net_view.specs.Places.{is_place}
use Rattle.net_view.specs.RadioPorts.{group_in}
use Rattle.net_reach.specs.Places.{places_by}

abbrev pub Groups : Type 0
Groups = BTreeMap (List ℕ) (Vec ℕ Global)

-- the last of the places is that one
abbrev pub is_last : List ℕ → ℕ → Bool
is_last places place = is_place place (slice_get places (length places - 1))

-- with a place at the end, where it is not the last
abbrev pub with_last : List ℕ → ℕ → List ℕ
with_last places place = if is_last places place then places else places ++ place ∷ []

-- places without one
abbrev pub without_place : List ℕ → ℕ → List ℕ
without_place places place = filter (λ other. not (other == place)) places

-- a map has for each name the places of the items that a test tells for it, rising
abbrev pub HasGroups : {X : Type 0} → Groups → (List ℕ → X → Bool) → List X → Type 0
HasGroups groups test xs = (name : List ℕ) → group_in groups name ≡ places_by (test name) xs

-- the places of the items that a test tells by place and item, in no stated order
pub record AreMembers {X : Type 0} (places : List ℕ) (test : ℕ → X → Bool) (xs : List X) : Type 0 where
  pub all : (place : ℕ) (x : X) → slice_get xs place ≡ Some x → test place x ≡ true → Contains places place
  pub only : (place : ℕ) → Contains places place
      → (x : X) × (slice_get xs place ≡ Some x) × (test place x ≡ true)

-- a map has for each name these places
abbrev pub HasMembers : {X : Type 0} → Groups → (List ℕ → ℕ → X → Bool) → List X → Type 0
HasMembers groups test xs = (name : List ℕ) → AreMembers (group_in groups name) (test name) xs

-- a map has room for one more place of a name
pub record HasRoomAt (groups : Groups) (name : List ℕ) : Type 0 where
  pub group : Vec ℕ Global
  pub found : get (slice_cmp nat_cmp) groups name ≡ Some group
  pub room : vec_len group < vec_capacity group

-- a place came to the names that a test tells, at the end of their places
abbrev pub Gains : Groups → Groups → (List ℕ → Bool) → ℕ → Type 0
Gains old new test place =
    (q : List ℕ) → group_in new q ≡ group_in old q ++ (if test q then place ∷ [] else [])

-- all places of all names are below a bound
abbrev pub AreBelow : Groups → ℕ → Type 0
AreBelow groups bound = (q : List ℕ) (place : ℕ) → Contains (group_in groups q) place → place < bound
