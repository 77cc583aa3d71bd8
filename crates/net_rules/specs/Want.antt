-- What a network wants of the kernel.
use Rattle.std.specs.Prelude.{ℕ, List, [], ◌∷◌, ◌++◌, map, filter, replicate, Bool, true, false, not, ◌&&◌, Option}
use Rattle.std.specs.Prelude.{Some, None, if◌then◌else◌, bytes_eq}
use Rattle.std.specs.List.{flat_map, filter_map, list_any}
use Rattle.net_addr.specs.declared.address.Addr.{Addr}
use Rattle.net_addr.specs.declared.address.Addr.TheVariants as family
use Rattle.kern_model.specs.declared.object.Mac.{Mac}
use Rattle.kern_model.specs.declared.object.LinkKind.TheVariants as kind
use Rattle.kern_model.specs.declared.object.Object.{Object}
use Rattle.kern_model.specs.declared.object.Object.TheVariants as object
use Rattle.kern_model.specs.ObjectOrder.{Objects, set_of}
use Rattle.net_rows.specs.declared.rows.InterfaceRow.{InterfaceRow}
use Rattle.net_rows.specs.declared.rows.RouteRow.{RouteRow}
use Rattle.net_rows.specs.declared.rows.NameRow.{NameRow}
use Rattle.net_rows.specs.declared.rows.VlanRow.{VlanRow}
use Rattle.net_rows.specs.declared.rows.VlanEntry.{VlanEntry}
use Rattle.net_rules.specs.declared.answer.Answer.{Answer}
use Rattle.net_rules.specs.Facts.{Facts}
use Rattle.net_rules.specs.Firsts.{firsts}
use Rattle.net_rules.specs.Rows.{row_at, names_of, interfaces_of, vlans_of, is_filtering, is_faultless, is_static}
use Rattle.net_rules.specs.Rows.{is_place_of}
use Rattle.net_rules.specs.RadioPorts.{device_of, radio_ports}
use Rattle.net_rules.specs.Standing.{Standing, Broken, Alone, Over, Ports, standing_at}
use Rattle.net_rules.specs.Interfaces.{is_up, l3_device_of, answer_of}
use Rattle.net_rules.specs.Used.{used}

-- the MTU of a used name, where one is configured
abbrev pub mtu_of : List ℕ → Option ℕ → List Object
mtu_of name None = []
mtu_of name (Some mtu) = object.Mtu name mtu ∷ []

-- the hardware address of a used plain name, where one is configured
abbrev pub mac_of : List ℕ → Option Mac → List Object
mac_of name None = []
mac_of name (Some mac) = object.Mac name mac ∷ []

-- the port has a master, where it is used
abbrev pub masters_of : Facts → List ℕ → List (List ℕ) → List Object
masters_of facts bridge ports = map (λ port. object.Master port bridge) (filter (used facts) ports)

-- an entry counts where its port is a used own port of the bridge
abbrev pub entry_counts : Facts → List (List ℕ) → VlanEntry → Bool
entry_counts facts ports entry =
    used facts entry.port && list_any (λ port. bytes_eq port entry.port) ports

-- a VLAN of a bridge: on its ports, and on the bridge itself where the row says `local`
abbrev pub local_vlan : List ℕ → ℕ → Bool → List Object
local_vlan bridge id false = []
local_vlan bridge id true = object.Vlan bridge bridge id false false ∷ []

abbrev pub vlan_objects : Facts → List ℕ → List (List ℕ) → VlanRow → List Object
vlan_objects facts bridge ports row =
    map (λ entry. object.Vlan bridge entry.port row.id entry.pvid entry.untagged)
    (filter (entry_counts facts ports) row.entries)
    ++ local_vlan bridge row.id row.local

-- the objects of a used name beside its MTU: it is up, and of a plain one the hardware address, of
-- a made one the link, of a bridge the masters and VLANs of its ports
abbrev pub objects_by : Facts → List ℕ → Option Mac → Standing → List Object
objects_by facts name mac Broken = []
objects_by facts name mac (Alone sound) = object.Up name ∷ mac_of name mac
objects_by facts name mac (Over lower id) =
    object.Up name ∷ object.Link name (kind.Vlan lower id mac) ∷ []
objects_by facts name mac (Ports empty ports) =
    object.Up name ∷ object.Link name (kind.Bridge mac (is_filtering facts.conf name))
    ∷ (masters_of facts name ports
    ++ flat_map (vlan_objects facts name ports) (vlans_of facts.conf name))

abbrev pub objects_of_row : Facts → List ℕ → NameRow → List Object
objects_of_row facts name row =
    mtu_of name row.mtu ++ objects_by facts name row.mac (standing_at facts name)

-- the objects of a name, where it is used
abbrev pub objects_at : Facts → List ℕ → List Object
objects_at facts name =
    if used facts name then objects_of_row facts name (row_at facts.conf.names name) else []

-- everything: 0.0.0.0/0 or ::/0 (RFC 4632, RFC 4291)
abbrev pub everything : Addr → Addr × ℕ
everything (family.V4 a) = (family.V4 (record { 0 = replicate 4 0 }), 0)
everything (family.V6 a) = (family.V6 (record { 0 = replicate 16 0 }), 0)

-- the table of routes that are in no other (`main`)
abbrev pub main_table : ℕ
main_table = 254

-- a route to everything by a gateway
abbrev pub default_route : List ℕ → ℕ → Addr → Object
default_route dev metric gateway = object.Route (record {
  target = everything gateway;
  via = Some gateway;
  dev = dev;
  metric = metric;
  table = main_table;
})

-- what the options of a static interface give
abbrev pub of_options : InterfaceRow → List ℕ → List Object
of_options row dev =
    map (object.Address dev) row.addresses ++ map (default_route dev row.metric) row.gateways

-- what an answer gives
abbrev pub of_answer : List ℕ → Option Answer → List Object
of_answer dev None = []
of_answer dev (Some answer) =
    map (object.Address dev) answer.addresses
    ++ map (λ r. object.Route (record {
      target = r.target;
      via = r.via;
      dev = dev;
      metric = r.metric;
      table = main_table;
    })) answer.routes

-- the route of a section that names the interface, has no fault and is not disabled
abbrev pub is_route_of : Facts → InterfaceRow → RouteRow → Bool
is_route_of facts row r =
    is_faultless r.faults && (not r.disabled && is_place_of facts.conf row.name r.interface)

abbrev pub of_sections : Facts → InterfaceRow → List ℕ → List Object
of_sections facts row dev =
    map (λ r. object.Route (record {
      target = r.target;
      via = r.via;
      dev = dev;
      metric = r.metric;
      table = r.table;
    })) (filter (is_route_of facts row) facts.conf.routes)

-- the addresses and routes of an interface on a device: of its options or of its answer, then of
-- the sections that name it
abbrev pub given_on : Facts → InterfaceRow → List ℕ → List Object
given_on facts row dev =
    (if is_static row.proto then of_options row dev else of_answer dev (answer_of facts row))
    ++ of_sections facts row dev

abbrev pub given_by : Facts → InterfaceRow → Option (List ℕ) → List Object
given_by facts row None = []
given_by facts row (Some dev) = given_on facts row dev

-- the addresses and routes of an interface, on its layer-3 device, where it is up
abbrev pub given : Facts → InterfaceRow → List Object
given facts row = if is_up facts row then given_by facts row (l3_device_of facts row) else []

-- the names that can be used, each once: those with a row, the ports of radios, and the devices of
-- interfaces
abbrev pub known_names : Facts → List (List ℕ)
known_names facts =
    firsts (λ name. name) (names_of facts.conf
    ++ (map (λ joins. joins.port) (radio_ports facts)
    ++ (filter_map (device_of facts) (interfaces_of facts.conf)
    ++ filter_map (l3_device_of facts) (interfaces_of facts.conf))))

-- what is wanted, as a list
abbrev pub wanted_list : Facts → List Object
wanted_list facts =
    flat_map (objects_at facts) (known_names facts)
    ++ flat_map (given facts) (interfaces_of facts.conf)

-- what is wanted
unfoldable pub want : Facts → Objects
want facts = set_of (wanted_list facts)
