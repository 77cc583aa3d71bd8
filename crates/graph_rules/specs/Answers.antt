-- Which names of a graph are available, have link and are used, by plain recursion over names. The tests
-- of one name are those of a network; claims stand for its interfaces.
use Rattle.std.specs.Prelude.{ℕ, ◌+◌, List, map, filter, length, Bool, false, ◌&&◌, ◌||◌, if◌then◌else◌, is_some}
use Rattle.std.specs.Prelude.{nat_lt, bytes_eq}
use Rattle.std.specs.List.{list_any}
use Rattle.std.specs.Option.{option_map_or}
use Rattle.net_rules.specs.Levels.{by_levels}
use Rattle.net_rules.specs.RadioPorts.{RadioPort}
use Rattle.net_rules.specs.Rows.{row_at}
use Rattle.net_rules.specs.Standing.{Standing, standing_of_row, lowers_of}
use Rattle.net_rules.specs.Available.{opens, links}
use Rattle.graph_rules.specs.declared.ids.RadioPort.{RadioPort as GivenPort}
use Rattle.graph_rules.specs.State.{Known, device_in, claims_in}

-- a port that a radio gives to a bridge
abbrev pub port_of : GivenPort → RadioPort
port_of p = record { bridge = p.bridge; port = p.port }

-- the ports that radios give to a bridge
abbrev pub given_ports : List RadioPort → List ℕ → List (List ℕ)
given_ports radio bridge =
    map (λ joins. joins.port) (filter (λ joins. bytes_eq joins.bridge bridge) radio)

-- what a name stands on: its row says it, and a bridge has the ports of radios behind its own
abbrev pub standing_in : Known → List ℕ → Standing
standing_in s name = standing_of_row (row_at s.rows name) (given_ports (map port_of s.radio) name)

-- one name stands on the other
abbrev pub stands_in : Known → List ℕ → List ℕ → Bool
stands_in s lower upper = list_any (λ name. bytes_eq name lower) (lowers_of (standing_in s upper))

abbrev pub has_device : Known → List ℕ → Bool
has_device s name = is_some (device_in s name)

abbrev pub has_carrier : Known → List ℕ → Bool
has_carrier s name = option_map_or (λ device. device.carrier) (device_in s name) false

abbrev pub opens_in : Known → (List ℕ → Bool) → List ℕ → Bool
opens_in s below name = opens (has_device s name) below (standing_in s name)

-- a name is available; the answer looks eight levels down
unfoldable pub available_in : Known → List ℕ → Bool
available_in s name = by_levels 8 (opens_in s) name

abbrev pub links_in : Known → (List ℕ → Bool) → List ℕ → Bool
links_in s below name = links (has_carrier s name) (available_in s name) below (standing_in s name)

-- a name has link; the answer looks eight levels down
unfoldable pub link_in : Known → List ℕ → Bool
link_in s name = by_levels 8 (links_in s) name

abbrev pub row_names : Known → List (List ℕ)
row_names s = map (λ row. row.name) s.rows

-- By what is above, whether a name is used: it is available, and it is claimed, or it is an own port
-- of a used bridge or the lower of a used VLAN.
abbrev pub serves_in : Known → (List ℕ → Bool) → List ℕ → Bool
serves_in s above name =
    available_in s name
    && (nat_lt 0 (claims_in s name)
    || list_any (λ upper. stands_in s name upper && above upper) (row_names s))

-- a name is used; the answer looks eight levels up
unfoldable pub used_in : Known → List ℕ → Bool
used_in s name = by_levels 8 (serves_in s) name

-- the claims of an available name, and the used bridges and VLANs that stand on it, else 0
abbrev pub users_in : Known → List ℕ → ℕ
users_in s name =
    if available_in s name
    then claims_in s name
    + length (filter (λ upper. stands_in s name upper && used_in s upper) (row_names s))
    else 0
