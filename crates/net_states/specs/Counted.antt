-- What is counted over interfaces: the claims of a graph, and the givers of addresses and routes above it.
use Rattle.std.specs.Prelude.{ℕ, ◌≡◌, ◌≤◌, ◌^◌, List, length, Contains, Bool, true, ◌||◌, Option, Some, is_some}
use Rattle.std.specs.Prelude.{slice_get}
use Rattle.net_rows.specs.declared.rows.InterfaceRow.{InterfaceRow}
use Rattle.net_rules.specs.declared.inputs.Inputs.{Inputs}
use Rattle.net_rules.specs.Facts.{Facts}
use Rattle.net_rules.specs.Rows.{asks_nothing}
use Rattle.net_rules.specs.Interfaces.{answer_of, l3_device_of}
use Rattle.net_rules.specs.Want.{given_by}
use Rattle.net_rules.specs.Inputs.{facts_of}
use Rattle.graph_rules.specs.State.{Known}
use Rattle.graph_laws.specs.Below.{AgreesBelow}
use Rattle.graph_laws.specs.Knowing.{KnowsRows}
use Rattle.given_objects.specs.Gifts.{Gifts}
use Rattle.graph_settle.specs.SettlingState.{SettlingState}
use Rattle.net_rules.specs.declared.state.InterfaceState.{InterfaceState}
use Rattle.net_rules.specs.States.{is_first}
use Rattle.net_gifts.specs.Giving.{HasGivers, HavePlaces, DiffersInGivers}
use Rattle.claim_moves.specs.Claiming.{HasClaims, DiffersInClaims}

-- a graph agrees with the inputs below claims, and knows the names of its rows
pub record AgreesWith (inputs : Inputs) (s : Known) : Type 0 where
  pub below : AgreesBelow (facts_of inputs) s
  pub knows : KnowsRows s

-- each name has as many claims as interfaces use it, and each object as many givers as interfaces give it
pub record IsCounted (inputs : Inputs) (states : List InterfaceState) (c : SettlingState) : Type 0 where
  pub claims : HasClaims states c.graph.known
  pub givers : HasGivers (facts_of inputs) inputs.conf.interfaces states c.gifts

-- an interface may come to be up without a further answer
abbrev pub needs_no_answer : Facts → InterfaceRow → Bool
needs_no_answer facts row = asks_nothing row.proto || is_some (answer_of facts row)

-- There is a place for what each first row of a name gives once it is up, where it needs no further answer for that.
-- Rows are few, and what each gives is.
pub record HasGiftRoom (inputs : Inputs) (gs : Gifts) : Type 0 where
  pub places : (place : ℕ) (row : InterfaceRow) → slice_get inputs.conf.interfaces place ≡ Some row
      → is_first inputs.conf.interfaces place row.name ≡ true
      → needs_no_answer (facts_of inputs) row ≡ true
      → HavePlaces gs (given_by (facts_of inputs) row (l3_device_of (facts_of inputs) row))
  pub few : (row : InterfaceRow) (l3_device : Option (List ℕ)) → Contains inputs.conf.interfaces row
      → length (given_by (facts_of inputs) row l3_device) ≤ 2 ^ 50
  pub rows : length inputs.conf.interfaces ≤ 1024

-- A graph and the gifts above it are counted over interfaces beside the inputs, and have room for what these may
-- become.
pub record IsCountedBy (inputs : Inputs) (states : List InterfaceState) (c : SettlingState) : Type 0 where
  pub agrees : AgreesWith inputs c.graph.known
  pub counted : IsCounted inputs states c
  pub room : HasGiftRoom inputs c.gifts

-- nothing but claims and givers differs
pub record DiffersInCounts (before now : SettlingState) : Type 0 where
  pub graph : DiffersInClaims before.graph now.graph
  pub gifts : DiffersInGivers before.gifts now.gifts
  pub may_lose_link : now.may_lose_link ≡ before.may_lose_link
