-- What is kept of interfaces before any of them claims or gives something.
use Rattle.std.specs.Prelude.{ℕ, ◌≡◌, List, length, not, ◌&&◌, Option, Some, None, is_none, if◌then◌else◌, slice_get}
use Rattle.net_rows.specs.declared.rows.InterfaceRow.{InterfaceRow}
use Rattle.net_rules.specs.declared.request.InterfaceRequest.{InterfaceRequest}
use Rattle.net_rules.specs.declared.inputs.Inputs.{Inputs}
use Rattle.net_rules.specs.Rows.{asks_nothing}
use Rattle.net_rules.specs.Need.{in_order}
use Rattle.net_rules.specs.declared.state.InterfaceState.{InterfaceState}
use Rattle.net_rules.specs.States.{is_first, IsIdle}
use Rattle.net_states.specs.Kept.{IsNotedAs}

-- none of them is claimed or up
abbrev pub AreIdle : List InterfaceState → Type 0
AreIdle states = (place : ℕ) (st : InterfaceState) → slice_get states place ≡ Some st → IsIdle st

-- what is kept of the row at a place, where it is neither claimed nor up
pub record IsNotedIdle (inputs : Inputs) (place : ℕ) (row : InterfaceRow) (st : InterfaceState)
    : Type 0 where
  pub first : st.is_first ≡ is_first inputs.conf.interfaces place row.name
  pub noted : IsNotedAs st.is_first inputs row st
  pub idle : IsIdle st

-- the request of the first row of a name that a handler serves, while none is open
abbrev pub spare_request : InterfaceRow → InterfaceState → Option InterfaceRequest
spare_request row st =
    if st.is_first && (is_none st.number && not (asks_nothing row.proto))
    then Some (record {
      name = row.name;
      proto = row.proto;
      options = in_order row.options;
      device = st.device;
    })
    else None

-- what is at hand for the row at a place, beside what its interface is
abbrev pub IsSpare : List InterfaceState → ℕ → InterfaceRow → Option InterfaceRequest → Type 0
IsSpare states place row request =
    (st : InterfaceState) → slice_get states place ≡ Some st → request ≡ spare_request row st

-- a list has for each item of another, at its place, what a relation tells
pub record AreBeside {X Y : Type 0} (is : ℕ → X → Y → Type 0) (xs : List X) (ys : List Y)
    : Type 0 where
  pub size : length ys ≡ length xs
  pub each : (place : ℕ) (x : X) (y : Y) → slice_get xs place ≡ Some x → slice_get ys place ≡ Some y
      → is place x y
