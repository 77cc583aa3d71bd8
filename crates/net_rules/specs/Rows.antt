-- What the rows say of names, interfaces and radios (OpenWrt's network configuration).
use Rattle.std.specs.Prelude.{ℕ, List, [], ◌∷◌, map, filter, length, codes, Bool, true, false, not, ◌&&◌, ◌||◌, Option}
use Rattle.std.specs.Prelude.{Some, None, is_some, if◌then◌else◌, bytes_eq, nat_eq}
use Rattle.std.specs.List.{find, list_any, slice_get}
use Rattle.std.specs.Option.{option_map_or}
use Rattle.net_rows.specs.Dotted.{vlan_parts}
use Rattle.net_rows.specs.declared.rows.Conf.{Conf}
use Rattle.net_rows.specs.declared.rows.NameRow.{NameRow}
use Rattle.net_rows.specs.declared.rows.NameKind.{NameKind}
use Rattle.net_rows.specs.declared.rows.NameKind.TheVariants.{Plain, Bridge, Vlan}
use Rattle.net_rows.specs.declared.rows.InterfaceRow.{InterfaceRow}
use Rattle.net_rows.specs.declared.rows.RadioRow.{RadioRow}
use Rattle.net_rows.specs.declared.rows.WifiRow.{WifiRow}
use Rattle.net_rows.specs.declared.rows.VlanRow.{VlanRow}
use Rattle.net_rules.specs.Firsts.{firsts}

-- the option is that name
abbrev pub is_name : Option (List ℕ) → List ℕ → Bool
is_name None name = false
is_name (Some other) name = bytes_eq other name

-- the kind of a name without a row: plain, but a VLAN where it is of the form X.N, whose lower
-- `lower_in` says
abbrev pub rowless_kind : List ℕ → NameKind
rowless_kind name = if is_some (vlan_parts name) then Vlan None 0 else Plain

-- a name without a row is plain; one of the form X.N is never there
abbrev pub rowless : List ℕ → NameRow
rowless name = record {
  name = name;
  kind = rowless_kind name;
  level = 1;
  broken = is_some (vlan_parts name);
  mtu = None;
  mac = None;
  faults = [];
}

-- the row of a name, the first of several
abbrev pub row_at : List NameRow → List ℕ → NameRow
row_at [] name = rowless name
row_at (row ∷ rows) name = if bytes_eq row.name name then row else row_at rows name

abbrev pub kind_at : Conf → List ℕ → NameKind
kind_at conf name = (row_at conf.names name).kind

abbrev pub is_plain_kind : NameKind → Bool
is_plain_kind Plain = true
is_plain_kind (Bridge empty ports) = false
is_plain_kind (Vlan lower id) = false

-- a name that is never made
abbrev pub is_plain : Conf → List ℕ → Bool
is_plain conf name = is_plain_kind (kind_at conf name)

abbrev pub is_bridge_kind : NameKind → Bool
is_bridge_kind Plain = false
is_bridge_kind (Bridge empty ports) = true
is_bridge_kind (Vlan lower id) = false

abbrev pub is_bridge : Conf → List ℕ → Bool
is_bridge conf name = is_bridge_kind (kind_at conf name)

abbrev pub ports_of_kind : NameKind → List (List ℕ)
ports_of_kind Plain = []
ports_of_kind (Bridge empty ports) = ports
ports_of_kind (Vlan lower id) = []

-- a bridge of the rows owns the port
abbrev pub is_named_port : Conf → List ℕ → Bool
is_named_port conf port =
    list_any (λ row. list_any (λ other. bytes_eq other port) (ports_of_kind row.kind)) conf.names

-- the names that have a row
abbrev pub names_of : Conf → List (List ℕ)
names_of conf = map (λ row. row.name) conf.names

-- the interfaces, of one name the first
abbrev pub interfaces_of : Conf → List InterfaceRow
interfaces_of conf = firsts (λ row. row.name) conf.interfaces

-- the interface of a name
abbrev pub interface_named : Conf → List ℕ → Option InterfaceRow
interface_named conf name = find (λ row. bytes_eq row.name name) conf.interfaces

-- the radios, of one name the first
abbrev pub radios_of : Conf → List RadioRow
radios_of conf = firsts (λ row. row.name) conf.radios

-- the radio of a name
abbrev pub radio_named : Conf → List ℕ → Option RadioRow
radio_named conf name = find (λ row. bytes_eq row.name name) conf.radios

-- the rows of a radio that are not disabled
abbrev pub enabled_rows : RadioRow → List WifiRow
enabled_rows radio = filter (λ row. not row.disabled) radio.rows

-- the VLANs that are set on a bridge
abbrev pub is_vlan_of : List ℕ → VlanRow → Bool
is_vlan_of bridge row = not row.passed_over && is_name row.bridge bridge

abbrev pub vlans_of : Conf → List ℕ → List VlanRow
vlans_of conf bridge = filter (is_vlan_of bridge) conf.vlans

-- a bridge filters where a VLAN is set on it
abbrev pub is_filtering : Conf → List ℕ → Bool
is_filtering conf bridge = list_any (is_vlan_of bridge) conf.vlans

-- a row has no fault
abbrev pub is_faultless : {X : Type 0} → List X → Bool
is_faultless faults = nat_eq (length faults) 0

-- the configuration itself says all of an interface of these protocols; handlers are asked of every
-- other
abbrev pub is_static : List ℕ → Bool
is_static proto = bytes_eq proto (codes "static")

abbrev pub asks_nothing : List ℕ → Bool
asks_nothing proto = is_static proto || bytes_eq proto (codes "none")

-- the protocols that do nothing without a device
abbrev pub needs_device : List ℕ → Bool
needs_device proto =
    list_any (bytes_eq proto)
    (codes "static" ∷ codes "none" ∷ codes "dhcp" ∷ codes "dhcpv6" ∷ codes "pppoe" ∷ [])

-- the interface of a place in the rows has that name
abbrev pub is_place_of : Conf → List ℕ → Option ℕ → Bool
is_place_of conf name None = false
is_place_of conf name (Some place) =
    option_map_or (λ row. bytes_eq row.name name) (slice_get conf.interfaces place) false
