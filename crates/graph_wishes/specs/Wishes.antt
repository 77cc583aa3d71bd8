-- The objects that the rows of a graph can ever want, each with the two names whose use makes it wanted.
use Rattle.std.specs.Prelude.{ℕ, List, [], ◌∷◌, ◌++◌, map, filter, Bool, ◌&&◌, Option, bytes_eq, if◌then◌else◌}
use Rattle.std.specs.List.{flat_map, list_any}
use Rattle.kern_model.specs.declared.object.Mac.{Mac}
use Rattle.kern_model.specs.declared.object.LinkKind.TheVariants as kind
use Rattle.kern_model.specs.declared.object.Object.{Object}
use Rattle.kern_model.specs.declared.object.Object.TheVariants as object
use Rattle.net_rows.specs.declared.rows.NameRow.{NameRow}
use Rattle.net_rows.specs.declared.rows.VlanRow.{VlanRow}
use Rattle.net_rows.specs.declared.rows.VlanEntry.{VlanEntry}
use Rattle.net_rules.specs.Rows.{row_at, is_vlan_of}
use Rattle.net_rules.specs.Standing.{Standing, Broken, Alone, Over, Ports}
use Rattle.net_rules.specs.Want.{mtu_of, mac_of, local_vlan}
use Rattle.graph_rules.specs.State.{Known, names_in}
use Rattle.graph_rules.specs.Answers.{standing_in, used_in}

-- an object and the names that decide it
pub record May : Type 0 where
  pub object : Object
  pub first : List ℕ
  pub second : List ℕ

-- decided by one name alone
abbrev pub may_alone : List ℕ → Object → May
may_alone name o = record { object = o; first = name; second = name }

-- the master of a port, and the VLAN of an entry: decided by the bridge and the port
abbrev pub may_master : List ℕ → List ℕ → May
may_master bridge port = record { object = object.Master port bridge; first = bridge; second = port }

abbrev pub may_entry : List ℕ → ℕ → VlanEntry → May
may_entry bridge id entry =
    record {
      object = object.Vlan bridge entry.port id entry.pvid entry.untagged;
      first = bridge;
      second = entry.port;
    }

-- the entry's port is one of the bridge's own
abbrev pub is_own_entry : List (List ℕ) → VlanEntry → Bool
is_own_entry ports entry = list_any (λ port. bytes_eq port entry.port) ports

abbrev pub vlan_mays : List ℕ → List (List ℕ) → VlanRow → List May
vlan_mays bridge ports row =
    map (may_entry bridge row.id) (filter (is_own_entry ports) row.entries)
    ++ map (may_alone bridge) (local_vlan bridge row.id row.local)

abbrev pub mays_by : Known → List ℕ → Option Mac → Standing → List May
mays_by s name mac Broken = []
mays_by s name mac (Alone sound) = may_alone name (object.Up name) ∷ map (may_alone name) (mac_of name mac)
mays_by s name mac (Over lower id) =
    may_alone name (object.Up name) ∷ may_alone name (object.Link name (kind.Vlan lower id mac)) ∷ []
mays_by s name mac (Ports empty ports) =
    may_alone name (object.Up name)
    ∷ may_alone name (object.Link name (kind.Bridge mac (list_any (is_vlan_of name) s.vlans)))
    ∷ (map (may_master name) ports
    ++ flat_map (vlan_mays name ports) (filter (is_vlan_of name) s.vlans))

abbrev pub mays_of_row : Known → List ℕ → NameRow → List May
mays_of_row s name row =
    map (may_alone name) (mtu_of name row.mtu) ++ mays_by s name row.mac (standing_in s name)

abbrev pub mays_of : Known → List ℕ → List May
mays_of s name = mays_of_row s name (row_at s.rows name)

abbrev pub mays : Known → List May
mays s = flat_map (mays_of s) (names_in s)

-- both names are used
abbrev pub is_used_may : Known → May → Bool
is_used_may s m = used_in s m.first && used_in s m.second

-- the objects of which both names are used
abbrev pub used_mays : Known → List May → List Object
used_mays s ms = map (λ m. m.object) (filter (is_used_may s) ms)
