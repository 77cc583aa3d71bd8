-- Plain names that join a graph, and ports of radios.
use Rattle.std.specs.Prelude.{ℕ, ◌≡◌, List, Contains, None}
use Rattle.graph_rules.specs.declared.ids.RadioPort.{RadioPort}
use Rattle.graph_rules.specs.State.{State, names_in, place_among}
use Rattle.graph_rules.specs.After.{added_after, ports_after}

-- none, or one after another, each of which the graph did not know
pub data HasMoreNames (before : State) : State → Type 0 where
  none : HasMoreNames before before
  joins : (now : State) (name : List ℕ) → HasMoreNames before now → place_among now.known.names name ≡ None
      → HasMoreNames before (added_after now name)

-- nothing but names joined a graph, and it knows all of some
pub record KnowsAll (before : State) (names : List (List ℕ)) (now : State) : Type 0 where
  pub more : HasMoreNames before now
  pub known : (name : List ℕ) → Contains names name → Contains (names_in now.known) name

-- the graph knows all of some names, and then radios have these ports
pub record HasJoined (before : State) (names : List (List ℕ)) (ports : List RadioPort) (now : State) : Type 0 where
  pub named : State
  pub knows : KnowsAll before names named
  pub is : now ≡ ports_after named ports
