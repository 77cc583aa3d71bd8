-- What an interface becomes.
use Rattle.std.specs.Prelude.{ℕ, ◌≡◌, List, true, false, Some, is_some, slice_get, slice_set}
use Rattle.net_rows.specs.declared.rows.InterfaceRow.{InterfaceRow}
use Rattle.net_rules.specs.declared.inputs.Inputs.{Inputs}
use Rattle.net_rules.specs.Inputs.{facts_of}
use Rattle.graph_rules.specs.State.{place_among}
use Rattle.graph_settle.specs.SettlingState.{SettlingState}
use Rattle.net_rules.specs.declared.state.InterfaceState.{InterfaceState}
use Rattle.net_rules.specs.Claims.{uses_by}
use Rattle.net_rules.specs.States.{is_first, IsIdle, IsStateOf, IsStateAs}
use Rattle.net_gifts.specs.Giving.{gives, HavePlaces}

-- neither claimed nor up
abbrev pub idle : InterfaceState → InterfaceState
idle st = record st { is_claimed = false; is_up = false }

-- An interface may become another: its device and its request stay, the graph knows the names that it uses then, and
-- there is a place for what it gives then. A row that is not the first of its name stays idle.
pub record CanBecome (inputs : Inputs) (c : SettlingState) (row : InterfaceRow) (old new : InterfaceState)
    : Type 0 where
  pub first : new.is_first ≡ old.is_first
  pub device : new.device ≡ old.device
  pub number : new.number ≡ old.number
  pub unused : old.is_first ≡ false → IsIdle new
  pub known : (name : List ℕ) → uses_by name new ≡ true → is_some (place_among c.graph.known.names name) ≡ true
  pub places : HavePlaces c.gifts (gives (facts_of inputs) row new)

-- What the first row of a name is by the inputs, with the request that it has.
pub record IsNext (inputs : Inputs) (row : InterfaceRow) (old new : InterfaceState) : Type 0 where
  pub is : IsStateOf (facts_of inputs) row new
  pub first : new.is_first ≡ old.is_first
  pub number : new.number ≡ old.number

-- The interface at a place is what it is by the inputs, and all others are as they were.
pub record Follows (inputs : Inputs) (place : ℕ) (before now : List InterfaceState) : Type 0 where
  pub new : InterfaceState
  pub list : now ≡ slice_set before place new
  pub is : (row : InterfaceRow) → slice_get inputs.conf.interfaces place ≡ Some row
      → IsStateAs (is_first inputs.conf.interfaces place row.name) (facts_of inputs) row new
