-- What is wanted of the kernel on the devices of a graph: links, MTUs, hardware addresses, masters, VLANs
-- of bridges, and what is up.
use Rattle.std.specs.Prelude.{ℕ, List, [], ◌∷◌, ◌++◌, map, filter, Bool, ◌&&◌, Option, if◌then◌else◌, bytes_eq}
use Rattle.std.specs.List.{flat_map, list_any}
use Rattle.kern_model.specs.declared.object.Mac.{Mac}
use Rattle.kern_model.specs.declared.object.LinkKind.TheVariants as kind
use Rattle.kern_model.specs.declared.object.Object.{Object}
use Rattle.kern_model.specs.declared.object.Object.TheVariants as object
use Rattle.kern_model.specs.ObjectOrder.{Objects, set_of}
use Rattle.net_rows.specs.declared.rows.NameRow.{NameRow}
use Rattle.net_rows.specs.declared.rows.VlanRow.{VlanRow}
use Rattle.net_rows.specs.declared.rows.VlanEntry.{VlanEntry}
use Rattle.net_rules.specs.Rows.{row_at, is_vlan_of}
use Rattle.net_rules.specs.Standing.{Standing, Broken, Alone, Over, Ports}
use Rattle.net_rules.specs.Want.{mtu_of, mac_of, local_vlan}
use Rattle.graph_rules.specs.State.{Known, names_in}
use Rattle.graph_rules.specs.Answers.{standing_in, used_in}

-- an entry counts where its port is a used own port of the bridge
abbrev pub entry_counts : Known → List (List ℕ) → VlanEntry → Bool
entry_counts s ports entry =
    used_in s entry.port && list_any (λ port. bytes_eq port entry.port) ports

-- a VLAN of a bridge: on its ports, and on the bridge itself where the row says `local`
abbrev pub vlan_objects : Known → List ℕ → List (List ℕ) → VlanRow → List Object
vlan_objects s bridge ports row =
    map (λ entry. object.Vlan bridge entry.port row.id entry.pvid entry.untagged)
    (filter (entry_counts s ports) row.entries)
    ++ local_vlan bridge row.id row.local

-- the objects of a used name beside its MTU: it is up, and of a plain one the hardware address, of a
-- made one the link, of a bridge the masters and VLANs of its ports
abbrev pub objects_by : Known → List ℕ → Option Mac → Standing → List Object
objects_by s name mac Broken = []
objects_by s name mac (Alone sound) = object.Up name ∷ mac_of name mac
objects_by s name mac (Over lower id) =
    object.Up name ∷ object.Link name (kind.Vlan lower id mac) ∷ []
objects_by s name mac (Ports empty ports) =
    object.Up name ∷ object.Link name (kind.Bridge mac (list_any (is_vlan_of name) s.vlans))
    ∷ (map (λ port. object.Master port name) (filter (used_in s) ports)
    ++ flat_map (vlan_objects s name ports) (filter (is_vlan_of name) s.vlans))

abbrev pub objects_of_row : Known → List ℕ → NameRow → List Object
objects_of_row s name row = mtu_of name row.mtu ++ objects_by s name row.mac (standing_in s name)

-- the objects of a name, where it is used
abbrev pub objects_in : Known → List ℕ → List Object
objects_in s name = if used_in s name then objects_of_row s name (row_at s.rows name) else []

-- what is wanted on the devices
unfoldable pub want_in : Known → Objects
want_in s = set_of (flat_map (objects_in s) (names_in s))
