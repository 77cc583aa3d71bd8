-- What is kept of interfaces beside inputs.
use Rattle.std.specs.Prelude.{ℕ, ◌≡◌, ◌≤◌, List, length, Contains, Bool, true, false, Option, Some, None, slice_get}
use Rattle.std.specs.Prelude.{vec_capacity}
use Rattle.std.specs.Option.{option_map}
use Rattle.net_rows.specs.declared.rows.InterfaceRow.{InterfaceRow}
use Rattle.net_rules.specs.declared.request.InterfaceRequest.{InterfaceRequest}
use Rattle.net_rules.specs.declared.inputs.Inputs.{Inputs}
use Rattle.net_rules.specs.declared.inputs.OpenInterface.{OpenInterface}
use Rattle.net_rules.specs.Rows.{interface_named, asks_nothing}
use Rattle.net_rules.specs.RadioPorts.{device_of}
use Rattle.net_rules.specs.Need.{interface_request, in_order}
use Rattle.net_rules.specs.Inputs.{facts_of, open_interface}
use Rattle.net_reach.specs.Reach.{IsReachOf}
use Rattle.net_rules.specs.declared.state.InterfaceState.{InterfaceState}
use Rattle.net_rules.specs.States.{is_first, IsIdle, IsStateAs, AreStates}
use Rattle.asked_places.specs.Touched.{has}
use Rattle.net_states.specs.declared.states.States.{States}

-- the number of the open request of an interface
abbrev pub number_of : Inputs → List ℕ → Option ℕ
number_of inputs name = option_map (λ o. o.number) (open_interface inputs.interfaces name)

-- the first row of a name has its device and the number of its open request
pub record IsNoted (inputs : Inputs) (row : InterfaceRow) (st : InterfaceState) : Type 0 where
  pub device : st.device ≡ device_of (facts_of inputs) row
  pub number : st.number ≡ number_of inputs row.name

-- another row is idle, and has no request
pub record IsUnused (st : InterfaceState) : Type 0 where
  pub idle : IsIdle st
  pub number : st.number ≡ None

abbrev pub IsNotedAs : Bool → Inputs → InterfaceRow → InterfaceState → Type 0
IsNotedAs true inputs row st = IsNoted inputs row st
IsNotedAs false inputs row st = IsUnused st

-- the request of a row, whatever its device is
pub record IsRequestOf (row : InterfaceRow) (request : InterfaceRequest) : Type 0 where
  pub name : request.name ≡ row.name
  pub proto : request.proto ≡ row.proto
  pub options : request.options ≡ in_order row.options

-- the request of a row is at hand
abbrev pub IsAtHand : InterfaceRow → Option (Option InterfaceRequest) → Type 0
IsAtHand row kept = (request : InterfaceRequest) × (kept ≡ Some (Some request)) × IsRequestOf row request

-- Each open request is what the handler of its row is asked.
abbrev pub AreOwnRequests : Inputs → Type 0
AreOwnRequests inputs =
    (o : OpenInterface) (row : InterfaceRow) → Contains inputs.interfaces o
    → interface_named inputs.conf o.request.name ≡ Some row → o.request ≡ interface_request (facts_of inputs) row

-- At each place there is what is kept of its row. A first row that a handler serves has its request at hand while none
-- is open.
pub record AreNoted (inputs : Inputs) (states : States) : Type 0 where
  pub size : length states.list.items ≡ length inputs.conf.interfaces
  pub spare_size : length states.spare.items ≡ length inputs.conf.interfaces
  pub first : (place : ℕ) (row : InterfaceRow) (st : InterfaceState)
      → slice_get inputs.conf.interfaces place ≡ Some row → slice_get states.list.items place ≡ Some st
      → st.is_first ≡ is_first inputs.conf.interfaces place row.name
  pub each : (place : ℕ) (row : InterfaceRow) (st : InterfaceState)
      → slice_get inputs.conf.interfaces place ≡ Some row → slice_get states.list.items place ≡ Some st
      → IsNotedAs st.is_first inputs row st
  pub at_hand : (place : ℕ) (row : InterfaceRow) (st : InterfaceState)
      → slice_get inputs.conf.interfaces place ≡ Some row → slice_get states.list.items place ≡ Some st
      → st.is_first ≡ true → asks_nothing row.proto ≡ false → st.number ≡ None
      → IsAtHand row (slice_get states.spare.items place)

-- What reaches what is that of the inputs, what is kept at each place is that of its row, and there is room for the
-- number of a request of each interface. Nothing is said of what interfaces are.
pub record IsTied (inputs : Inputs) (states : States) : Type 0 where
  pub reach : IsReachOf inputs states.reach
  pub own : AreOwnRequests inputs
  pub noted : AreNoted inputs states
  pub room : length inputs.conf.interfaces ≤ vec_capacity states.lost

-- Interfaces are what they are by the inputs.
pub record AreStatesOf (inputs : Inputs) (states : States) : Type 0 where
  pub tied : IsTied inputs states
  pub are : AreStates (facts_of inputs) inputs.conf.interfaces states.list.items

-- Interfaces at other places than some are what they are by the inputs.
abbrev pub FollowBut : Inputs → List ℕ → List InterfaceState → Type 0
FollowBut inputs places states =
    (place : ℕ) (row : InterfaceRow) (st : InterfaceState) → slice_get inputs.conf.interfaces place ≡ Some row
    → slice_get states place ≡ Some st → has places place ≡ false
    → IsStateAs (is_first inputs.conf.interfaces place row.name) (facts_of inputs) row st

-- Interfaces at some places are neither claimed nor up.
abbrev pub AreIdleAt : List ℕ → List InterfaceState → Type 0
AreIdleAt places states =
    (place : ℕ) (st : InterfaceState) → slice_get states place ≡ Some st → has places place ≡ true → IsIdle st
