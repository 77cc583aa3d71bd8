-- The counted graph below what is known of names, in which each name is its id.
use Rattle.std.specs.Prelude.{ℕ, ◌≡◌, ◌<◌, ◌&&◌, ◌++◌, Bool, List, [], map, filter, length, nat_lt, if◌then◌else◌, not}
use Rattle.std.specs.Prelude.{is_some, false, slice_index_or, bytes_eq}
use Rattle.std.specs.List.{AllByRecursion, position_or_len}
use Rattle.std.specs.Option.{option_map_or}
use Rattle.use_counts.specs.declared.node.Edge.{Edge}
use Rattle.use_counts.specs.declared.node.Kind.{Kind}
use Rattle.use_counts.specs.declared.node.Row.{Row}
use Rattle.use_counts.specs.Held.{Member}
use Rattle.use_counts.specs.Network.{Network, member_at}
use Rattle.use_counts.specs.Rows as counts
use Rattle.net_rows.specs.declared.rows.NameKind.{NameKind}
use Rattle.net_rows.specs.declared.rows.NameRow.{NameRow}
use Rattle.net_rules.specs.Rows.{row_at}
use Rattle.net_rules.specs.Standing.{Standing, Broken, Alone, Over, Ports, standing_of, standing_of_row, lowers_of}
use Rattle.graph_rules.specs.declared.ids.RadioPort.{RadioPort}
use Rattle.graph_rules.specs.State.{Named, Known, claims_in, names_in}
use Rattle.graph_rules.specs.Answers.{standing_in, has_device, has_carrier, row_names}

-- the id of a name is its place
abbrev pub id_of : List (List ℕ) → List ℕ → ℕ
id_of names name = position_or_len (λ other. bytes_eq other name) names

-- the name of an id
abbrev pub name_of : Known → ℕ → List ℕ
name_of s id = slice_index_or (names_in s) id []

-- a standing with ids in place of names
abbrev pub by_id : List (List ℕ) → Standing → counts.Standing
by_id names Broken = counts.Faulty
by_id names (Alone sound) = counts.Alone sound
by_id names (Over lower id) = counts.Over (id_of names lower)
by_id names (Ports empty ports) = counts.Ports empty (map (id_of names) ports)

-- what each name stands on, by ids
abbrev pub standings_by_id : Known → List counts.Standing
standings_by_id s = map (λ name. by_id (names_in s) (standing_in s name)) (names_in s)

-- Each name stands at one place, its id. The names of the rows come first, in the order of the rows,
-- and the others stand on nothing. What a name stands on has an id.
pub record HasIds (s : Known) : Type 0 where
  pub once : (id : ℕ) → id < length (names_in s) → id_of (names_in s) (name_of s id) ≡ id
  pub plain : List (List ℕ)
  pub front : names_in s ≡ row_names s ++ plain
  pub alone : AllByRecursion (λ name. lowers_of (standing_in s name) ≡ []) plain
  pub lowers : (name : List ℕ) → AllByRecursion (λ lower. id_of (names_in s) lower < length (names_in s))
      (lowers_of (standing_in s name))

-- the node of an id has the device and the claims of its name
pub record IsToldAlike (s : Known) (net : Network) (id : ℕ) : Type 0 where
  pub present : (member_at net.members id).present ≡ has_device s (name_of s id)
  pub carrier : ((member_at net.members id).present && (member_at net.members id).carrier)
      ≡ has_carrier s (name_of s id)
  pub claims : (member_at net.members id).claims ≡ claims_in s (name_of s id)

-- a network of rows that with the ports of radios are what the names stand on
pub record IsCounted (s : Known) (net : Network) : Type 0 where
  pub rows : List counts.Standing
  pub are : counts.AreRows rows net
  pub stand : counts.joined net.ports rows ≡ standings_by_id s
  pub told : (id : ℕ) → id < length (names_in s) → IsToldAlike s net id

-- what a row says by itself, without the ports of radios
abbrev pub own_standing : List (List ℕ) → NameRow → counts.Standing
own_standing names row = by_id names (standing_of_row row [])

-- the greatest level of a node; a name of a higher one is never available
abbrev pub top_level : ℕ
top_level = 8

abbrev pub capped : ℕ → ℕ
capped level = if nat_lt top_level level then top_level else level

-- what the node of a name is
abbrev pub node_kind : NameKind → Bool → Kind
node_kind kind broken = counts.kind_of (by_id [] (standing_of kind broken []))

-- the kind and the level of a row
abbrev pub node_row : NameRow → Row
node_row row =
    record {
      kind = node_kind row.kind row.broken;
      level = capped row.level;
    }

-- the edges of the rows: to the lowers of VLANs, and to the ports of bridges by the rows
abbrev pub row_edges : List (List ℕ) → List NameRow → List Edge
row_edges names rows = counts.edges_from 0 (map (own_standing names) rows)

-- a port of a radio whose bridge no fault makes unavailable
abbrev pub joins_sound : List NameRow → RadioPort → Bool
joins_sound rows port = not (row_at rows port.bridge).broken

abbrev pub port_edge : List (List ℕ) → RadioPort → Edge
port_edge names port = record { lower = id_of names port.port; upper = id_of names port.bridge }

-- the edges to the ports of radios
abbrev pub port_edges : List (List ℕ) → List NameRow → List RadioPort → List Edge
port_edges names rows radio = map (port_edge names) (filter (joins_sound rows) radio)

-- the node of a name
abbrev pub member_in : List NameRow → Named → Member
member_in rows n =
    record {
      kind = (node_row (row_at rows n.name)).kind;
      level = (node_row (row_at rows n.name)).level;
      present = is_some n.device;
      carrier = option_map_or (λ device. device.carrier) n.device false;
      claims = n.claims;
    }

-- the network of what is known
abbrev pub network_of : Known → Network
network_of s =
    record {
      members = map (member_in s.rows) s.names;
      fixed = row_edges (names_in s) s.rows;
      ports = port_edges (names_in s) s.rows s.radio;
    }
