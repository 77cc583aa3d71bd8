-- A graph beside the facts of a network, whatever its claims are.
use Rattle.std.specs.Prelude.{ℕ, ◌≡◌, List, map}
use Rattle.net_rules.specs.Facts.{Facts}
use Rattle.net_rules.specs.RadioPorts.{radio_ports}
use Rattle.graph_rules.specs.State.{Known, device_in}
use Rattle.graph_rules.specs.Answers.{port_of}

-- A graph has the rows, the VLANs of bridges, the ports of radios and the devices of a network.
-- Nothing is said of claims.
pub record AgreesBelow (facts : Facts) (s : Known) : Type 0 where
  pub rows : s.rows ≡ facts.conf.names
  pub vlans : s.vlans ≡ facts.conf.vlans
  pub radio : map port_of s.radio ≡ radio_ports facts
  pub devices : (name : List ℕ) → device_in s name ≡ facts.device name
