-- The walk up from a name.
use Rattle.std.specs.Prelude.{ℕ, ◌≡◌, ◌<◌, ◌⊎◌, List, ◌++◌, Contains, Some, slice_get}
use Rattle.net_view.specs.RadioPorts.{group_in}
use Rattle.net_reach.specs.Places.{Places}
use Rattle.net_reach.specs.Groups.{Groups}

-- a set has the places of a name, those below its bound
abbrev pub Leads : Groups → List ℕ → Places → Type 0
Leads groups name set =
    (place : ℕ) → Contains (group_in groups name) place → place < set.bound → Contains set.list place

-- places came behind those that were there
pub record Stays (old new : Places) : Type 0 where
  pub bound : new.bound ≡ old.bound
  pub more : List ℕ
  pub list : new.list ≡ old.list ++ more

-- a row stands right on the base, or on a row that stands on it
pub data IsClimbed (above : Groups) (names : List (List ℕ)) (base : List ℕ) : ℕ → Type 0 where
  first : (place : ℕ) → Contains (group_in above base) place → IsClimbed above names base place
  further : (place lower : ℕ) (name : List ℕ) → IsClimbed above names base lower
      → slice_get names lower ≡ Some name → Contains (group_in above name) place
      → IsClimbed above names base place

-- all of a set stand on the base
abbrev pub AreClimbed : Groups → List (List ℕ) → List ℕ → Places → Type 0
AreClimbed above names base set =
    (place : ℕ) → Contains set.list place → IsClimbed above names base place

-- a place is that of an interface at a name
abbrev pub IsAt : Groups → Groups → List ℕ → ℕ → Type 0
IsAt at_device at_l3_device name place =
    Contains (group_in at_device name) place ⊎ Contains (group_in at_l3_device name) place

-- a set has the interfaces at a name
pub record Touches (at_device at_l3_device : Groups) (name : List ℕ) (set : Places) : Type 0 where
  pub device : Leads at_device name set
  pub l3_device : Leads at_l3_device name set

-- what a set has more are interfaces at a name
abbrev pub TouchesOnly : Groups → Groups → List ℕ → Places → Places → Type 0
TouchesOnly at_device at_l3_device name old new =
    (place : ℕ) → Contains new.list place
    → Contains old.list place ⊎ IsAt at_device at_l3_device name place

-- a place is that of an interface at the name of one of the rows
pub record IsAtRow (at_device at_l3_device : Groups) (names : List (List ℕ)) (rows : List ℕ) (place : ℕ)
    : Type 0 where
  pub row : ℕ
  pub member : Contains rows row
  pub name : List ℕ
  pub named : slice_get names row ≡ Some name
  pub at : IsAt at_device at_l3_device name place

-- the interfaces at the names of rows came, and nothing else
pub record HasTouched (at_device at_l3_device : Groups) (names : List (List ℕ)) (rows : List ℕ)
    (old new : Places) : Type 0 where
  pub stays : Stays old new
  pub touches : (row : ℕ) (name : List ℕ) → Contains rows row → slice_get names row ≡ Some name
      → Touches at_device at_l3_device name new
  pub only : (place : ℕ) → Contains new.list place
      → Contains old.list place ⊎ IsAtRow at_device at_l3_device names rows place
