-- What interfaces are by facts.
use Rattle.std.specs.Prelude.{ℕ, ◌≡◌, List, length, take, slice_get, Bool, true, false, not, Some, bytes_eq}
use Rattle.std.specs.List.{list_any}
use Rattle.net_rows.specs.declared.rows.InterfaceRow.{InterfaceRow}
use Rattle.net_rules.specs.Facts.{Facts}
use Rattle.net_rules.specs.RadioPorts.{device_of}
use Rattle.net_rules.specs.Interfaces.{is_claimed, is_up, l3_device_of}
use Rattle.net_rules.specs.declared.state.InterfaceState.{InterfaceState}

-- no row before a place has the name
abbrev pub is_first : List InterfaceRow → ℕ → List ℕ → Bool
is_first rows place name = not (list_any (λ row. bytes_eq row.name name) (take place rows))

-- what the first row of a name is; nothing is said of the number of its request
pub record IsStateOf (facts : Facts) (row : InterfaceRow) (st : InterfaceState) : Type 0 where
  pub device : st.device ≡ device_of facts row
  pub l3_device : st.l3_device ≡ l3_device_of facts row
  pub claimed : st.is_claimed ≡ is_claimed facts row
  pub up : st.is_up ≡ is_up facts row

-- neither claimed nor up
pub record IsIdle (st : InterfaceState) : Type 0 where
  pub claimed : st.is_claimed ≡ false
  pub up : st.is_up ≡ false

-- the first row of a name counts; another is idle
abbrev pub IsStateAs : Bool → Facts → InterfaceRow → InterfaceState → Type 0
IsStateAs true facts row st = IsStateOf facts row st
IsStateAs false facts row st = IsIdle st

-- beside each row is what it is
pub record AreStates (facts : Facts) (rows : List InterfaceRow) (states : List InterfaceState)
    : Type 0 where
  pub size : length states ≡ length rows
  pub each : (place : ℕ) (row : InterfaceRow) (st : InterfaceState)
      → slice_get rows place ≡ Some row → slice_get states place ≡ Some st
      → IsStateAs (is_first rows place row.name) facts row st
