-- The claims of a graph, and how they move with an interface.
use Rattle.std.specs.Prelude.{ℕ, ◌≡◌, ◌<◌, ◌≤◌, ◌+◌, List, Bool, ◌||◌, true, Option, Some, None, is_some, if◌then◌else◌}
use Rattle.std.specs.Prelude.{bytes_eq}
use Rattle.net_rules.specs.Rows.{is_name}
use Rattle.graph_rules.specs.State.{Known, State, names_in, device_in, claims_in, place_among}
use Rattle.net_rules.specs.declared.state.InterfaceState.{InterfaceState}
use Rattle.net_rules.specs.Claims.{uses_by, claim_of, claims_of}

-- nothing but the claims of names differs
pub record DiffersInClaims (before now : State) : Type 0 where
  pub rows : now.known.rows ≡ before.known.rows
  pub vlans : now.known.vlans ≡ before.known.vlans
  pub radio : now.known.radio ≡ before.known.radio
  pub names : names_in now.known ≡ names_in before.known
  pub devices : (name : List ℕ) → device_in now.known name ≡ device_in before.known name
  pub held : now.held ≡ before.held
  pub loads : now.loads ≡ before.loads

-- one, where a test passes, and for one name alone
abbrev pub one : Bool → ℕ
one b = if b then 1 else 0

abbrev pub one_at : List ℕ → List ℕ → Bool → ℕ
one_at name q b = if bytes_eq name q then one b else 0

-- the claims of each name are those that interfaces have
abbrev pub HasClaims : List InterfaceState → Known → Type 0
HasClaims states s = (name : List ℕ) → claims_in s name ≡ claims_of states name

-- The claims can follow where an interface becomes another: what it used is claimed, what it uses is a name of the
-- graph, and the claims stay few.
pub record CanMove (s : Known) (old new : InterfaceState) : Type 0 where
  pub device : new.device ≡ old.device
  pub claimed : (name : List ℕ) → uses_by name old ≡ true → 0 < claims_in s name
  pub known : (name : List ℕ) → uses_by name new ≡ true → is_some (place_among s.names name) ≡ true
  pub few : (name : List ℕ) → claims_in s name + claim_of name new ≤ 1024 + claim_of name old

-- what an interface claims of a name, where a test tells the name
abbrev pub claim_where : Option (List ℕ) → List ℕ → InterfaceState → ℕ
claim_where told name st = if is_name told name then claim_of name st else 0

-- the claims of one name, if there is one, follow where an interface becomes another
abbrev pub MovesNamed : Option (List ℕ) → InterfaceState → InterfaceState → Known → Known → Type 0
MovesNamed told old new before now =
    (name : List ℕ) → claims_in now name + claim_where told name old
    ≡ claims_in before name + claim_where told name new

-- those of all names do
abbrev pub Moves : InterfaceState → InterfaceState → Known → Known → Type 0
Moves old new before now =
    (name : List ℕ) → claims_in now name + claim_of name old ≡ claims_in before name + claim_of name new

-- a name, unless it is one of two others
abbrev pub apart_from : Option (List ℕ) → Option (List ℕ) → Option (List ℕ) → Option (List ℕ)
apart_from first second None = None
apart_from first second (Some name) =
    if is_name first name || is_name second name then None else Some name
