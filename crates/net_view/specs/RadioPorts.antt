-- The ports of radios, as the program keeps them.
use Rattle.std.specs.Prelude.{ℕ, ◌≡◌, List, [], map, filter, not, ◌&&◌, if◌then◌else◌, Option, Some, None, bytes_eq}
use Rattle.std.specs.Prelude.{Vec}
use Rattle.std.specs.List.{list_any}
use Rattle.std.specs.Ordering.{nat_cmp}
use Rattle.std.specs.Cmp.Lexicographic.{slice_cmp}
use Rattle.std.specs.BTreeMap.{BTreeMap, get}
use Rattle.std.specs.declared.alloc.Global.{Global}
use Rattle.net_rows.specs.declared.rows.Conf.{Conf}
use Rattle.net_rows.specs.declared.rows.WifiRow.{WifiRow}
use Rattle.net_rules.specs.declared.inputs.Inputs.{Inputs}
use Rattle.net_rules.specs.Facts.{Facts}
use Rattle.net_rules.specs.Firsts.{firsts}
use Rattle.net_rules.specs.Rows.{is_bridge, is_named_port}
use Rattle.net_rules.specs.RadioPorts.{AnsweredPort, RadioPort, answered_port, answered_ports, radio_ports}
use Rattle.net_rules.specs.Inputs.{facts_of}
use Rattle.net_view.specs.Places.{HasPlaces}
use Rattle.net_view.specs.Names.{HasNames}
use Rattle.net_view.specs.Index.{IsIndexOf}
use Rattle.net_view.specs.declared.radio_ports.PortAnswer.{PortAnswer}
use Rattle.net_view.specs.declared.radio_ports.PortJoin.{PortJoin}
use Rattle.net_view.specs.declared.radio_ports.Joins.{Joins}
use Rattle.net_view.specs.declared.radio_ports.RadioPorts.{RadioPorts}

abbrev pub as_answered : PortAnswer → AnsweredPort
as_answered answer = record { interface = answer.interface; port = answer.port }

abbrev pub as_joined : PortJoin → RadioPort
as_joined join = record { bridge = join.bridge; port = join.port }

-- the rows that are not disabled
abbrev pub enabled : List WifiRow → List WifiRow
enabled rows = filter (λ row. not row.disabled) rows

-- what an answer tells for a row
abbrev pub port_of_pair : Facts → WifiRow × Option (List ℕ) → Option AnsweredPort
port_of_pair facts pair = answered_port facts pair.0.network pair.1

-- the bridge that a port joins, where the device of its interface is one and no bridge of the rows owns the port
abbrev pub join_to : Conf → List ℕ → List ℕ → Option RadioPort
join_to conf port device = if is_bridge conf device && not (is_named_port conf port)
    then Some (record { bridge = device; port = port }) else None

-- the ports that join a bridge
abbrev pub ports_joining : List ℕ → List RadioPort → List (List ℕ)
ports_joining bridge joins = map (λ j. j.port) (filter (λ j. bytes_eq j.bridge bridge) joins)

-- the list, where there is one
abbrev pub list_of : {X : Type 0} → Option (Vec X Global) → List X
list_of None = []
list_of (Some list) = list.items

-- the list that a map has for a name
abbrev pub group_in : {X : Type 0} → BTreeMap (List ℕ) (Vec X Global) → List ℕ → List X
group_in groups name = list_of (get (slice_cmp nat_cmp) groups name)

-- a map has the ports that join each bridge
abbrev pub HasPorts : BTreeMap (List ℕ) (Vec (List ℕ) Global) → List RadioPort → Type 0
HasPorts groups joins = (bridge : List ℕ) → group_in groups bridge ≡ ports_joining bridge joins

-- the list has of each port the first that joins a bridge, and the set has these ports
pub record AreJoins (all : List RadioPort) (joins : Joins) : Type 0 where
  pub list : map as_joined joins.list.items ≡ firsts (λ j. j.port) all
  pub ports : HasNames joins.ports (λ q. list_any (λ j. bytes_eq j.port q) all)

-- the index and the ports are those of the inputs
pub record ArePortsOf (inputs : Inputs) (ports : RadioPorts) : Type 0 where
  pub index : IsIndexOf inputs ports.index
  pub answered : map as_answered ports.answered.items ≡ answered_ports (facts_of inputs)
  pub answers : HasPlaces ports.answers (map (λ answer. answer.interface) ports.answered.items)
  pub joined : map as_joined ports.joined.items ≡ radio_ports (facts_of inputs)
  pub joining : HasPorts ports.joining (radio_ports (facts_of inputs))
