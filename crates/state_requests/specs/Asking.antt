-- The requests of interfaces follow, while these give nothing and claim nothing.
use Rattle.std.specs.Prelude.{ℕ, List, Bool, not, ◌&&◌, is_none}
use Rattle.net_rows.specs.declared.rows.InterfaceRow.{InterfaceRow}
use Rattle.net_rules.specs.declared.inputs.Inputs.{Inputs}
use Rattle.net_rules.specs.Facts.{Facts}
use Rattle.net_rules.specs.Rows.{asks_nothing}
use Rattle.net_rules.specs.Interfaces.{is_ready}
use Rattle.net_states.specs.SettlingState.{SettlingState}
use Rattle.net_rules.specs.declared.state.InterfaceState.{InterfaceState}
use Rattle.net_states.specs.declared.states.States.{States}
use Rattle.net_states.specs.Kept.{IsTied, FollowBut, AreIdleAt}
use Rattle.net_states.specs.Counted.{IsCountedBy}

-- an interface is ready, and a handler serves it
abbrev pub needs_request : Facts → InterfaceRow → Bool
needs_request facts row = is_ready facts row && not (asks_nothing row.proto)

-- the first row of a name has no open request, and needs one
abbrev pub lacks_request : Facts → InterfaceRow → InterfaceState → Bool
lacks_request facts row st = (st.is_first && is_none st.number) && needs_request facts row

-- Interfaces at some places are neither claimed nor up, all others are what they are by the inputs, and the graph and
-- the gifts are counted over them.
pub record AreBetween (inputs : Inputs) (places : List ℕ) (states : States) (c : SettlingState) : Type 0 where
  pub tied : IsTied inputs states
  pub idle : AreIdleAt places states.list.items
  pub follow : FollowBut inputs places states.list.items
  pub counted : IsCountedBy inputs states.list.items c
