-- The claims of names, counted over what interfaces are.
use Rattle.std.specs.Prelude.{ℕ, List, filter, length, Bool, ◌&&◌, ◌||◌, if◌then◌else◌}
use Rattle.net_rules.specs.Rows.{is_name}
use Rattle.net_rules.specs.declared.state.InterfaceState.{InterfaceState}

-- an interface uses its device where it claims it, and its layer-3 device where it is up
abbrev pub uses_by : List ℕ → InterfaceState → Bool
uses_by name st = (st.is_claimed && is_name st.device name) || (st.is_up && is_name st.l3_device name)

-- one claim where it uses the name
abbrev pub claim_of : List ℕ → InterfaceState → ℕ
claim_of name st = if uses_by name st then 1 else 0

-- how many use a name
abbrev pub claims_of : List InterfaceState → List ℕ → ℕ
claims_of states name = length (filter (uses_by name) states)
