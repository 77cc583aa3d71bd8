-- A graph beside the facts of a network.
use Rattle.std.specs.Prelude.{ℕ, ◌≡◌, List, map, filter, length, true, Contains}
use Rattle.std.specs.List.{flat_map}
use Rattle.kern_model.specs.ObjectOrder.{Objects, set_of}
use Rattle.net_rules.specs.Facts.{Facts}
use Rattle.net_rules.specs.Rows.{interfaces_of}
use Rattle.net_rules.specs.RadioPorts.{radio_ports}
use Rattle.net_rules.specs.Used.{uses, used}
use Rattle.net_rules.specs.Want.{known_names, objects_at}
use Rattle.graph_rules.specs.State.{Known, names_in, device_in, claims_in}
use Rattle.graph_rules.specs.Answers.{port_of}

-- A graph has the rows, the ports of radios and the devices of a network, and as many claims of each
-- name as interfaces use it.
pub record Agrees (facts : Facts) (s : Known) : Type 0 where
  pub rows : s.rows ≡ facts.conf.names
  pub vlans : s.vlans ≡ facts.conf.vlans
  pub radio : map port_of s.radio ≡ radio_ports facts
  pub devices : (name : List ℕ) → device_in s name ≡ facts.device name
  pub claims : (name : List ℕ) → claims_in s name
      ≡ length (filter (uses facts name) (interfaces_of facts.conf))

-- the used names of the graph are those of the network
pub record SharesUsed (facts : Facts) (s : Known) : Type 0 where
  pub known : (name : List ℕ) → used facts name ≡ true → Contains (known_names facts) name
      → Contains (names_in s) name
  pub only : (name : List ℕ) → used facts name ≡ true → Contains (names_in s) name
      → Contains (known_names facts) name

-- what a network wants on its names: all but the addresses and routes of its interfaces
abbrev pub wanted_on_names : Facts → Objects
wanted_on_names facts = set_of (flat_map (objects_at facts) (known_names facts))
