-- The rows of `route` and `route6` sections (OpenWrt's network configuration; the names of the faults are our own).
use Rattle.std.specs.Prelude.{ℕ, Bool, true, false, not, ◌||◌, is_none, List, ◌++◌, Option, Some, None, codes, bytes_eq}
use Rattle.std.specs.Prelude.{map, replicate, filter_map, option_map, if◌then◌else◌}
use Rattle.net_addr.specs.declared.address.Addr.{Addr}
use Rattle.uci_tree.specs.declared.package.Value.{Value}
use Rattle.uci_tree.specs.declared.package.Value.TheVariants.{One, Many}
use Rattle.uci_tree.specs.declared.package.Opt.{Opt}
use Rattle.uci_tree.specs.declared.package.Section.{Section}
use Rattle.net_rows.specs.declared.stated.Stated.{Stated}
use Rattle.net_rows.specs.Options.{value_of, text_of}
use Rattle.net_rows.specs.Stated.{stated}
use Rattle.net_rows.specs.Number.{decimal_of}
use Rattle.net_rows.specs.Truth.{truth}
use Rattle.net_rows.specs.declared.fault_name.FaultName.TheVariants as fault
use Rattle.net_rows.specs.declared.rows.InterfaceRow.{InterfaceRow}
use Rattle.net_rows.specs.declared.rows.RouteRow.{RouteRow}
use Rattle.net_rows.specs.declared.rows.RowFault.{RowFault}
use Rattle.net_interfaces.specs.declared.kinds.TheConstants.{ROUTE, ROUTE6, UNICAST, MAIN, MAIN_TABLE}
use Rattle.net_interfaces.specs.declared.address.Family.{Family}
use Rattle.net_interfaces.specs.declared.address.Family.TheVariants.{V4, V6}
use Rattle.net_interfaces.specs.Address.{v4, v6, bits_of}
use Rattle.net_interfaces.specs.Prefix.{prefix_of}
use Rattle.net_interfaces.specs.Network.{network}
use Rattle.net_interfaces.specs.Names.{place_given}
use Rattle.net_interfaces.specs.Given.{is_unread, if_read, read_or, if_so}
use Rattle.net_interfaces.specs.Addresses.{stated_mask, alone_v4}
use Rattle.net_interfaces.specs.Gateways.{stated_addr}
use Rattle.net_interfaces.specs.Faults.{stated_metric}

-- the family of the routes of a section
abbrev pub family_of : Section → Option Family
family_of section =
    if bytes_eq section.kind ROUTE.now then Some V4
    else (if bytes_eq section.kind ROUTE6.now then Some V6 else None)

-- the length of a target without one: that of `netmask` where the family has it, and else that of a host
abbrev pub alone_length : Family → List Opt → ℕ
alone_length V4 options = alone_v4 options
alone_length V6 options = bits_of V6

-- `target`
abbrev pub stated_target : Family → List Opt → Stated (Addr × ℕ)
stated_target family options = stated (prefix_of family (alone_length family options))
    (value_of (codes "target") options)

-- all addresses of a family
abbrev pub all_of : Family → Addr × ℕ
all_of V4 = (v4 (replicate 4 0), 0)
all_of V6 = (v6 (replicate 16 0), 0)

-- where a route leads to, without host bits
abbrev pub target : Family → List Opt → Addr × ℕ
target family options = network (read_or (all_of family) (stated_target family options))

-- `netmask` does not read, where the family has it
abbrev pub has_bad_mask : Family → List Opt → Bool
has_bad_mask V4 options = is_unread (stated_mask options)
has_bad_mask V6 options = false

-- the number of a table: `main`, or a decimal (ip-route's tables)
abbrev pub table_of : List ℕ → Option ℕ
table_of text = if bytes_eq text MAIN.now then Some MAIN_TABLE else decimal_of text

-- `table`
abbrev pub stated_table : List Opt → Stated ℕ
stated_table options = stated table_of (value_of (codes "table") options)

-- `type` is given, and is not `unicast`
abbrev pub is_wrong : Option Value → Bool
is_wrong None = false
is_wrong (Some (Many items)) = true
is_wrong (Some (One text)) = not (bytes_eq text UNICAST.now)

-- what is wrong with a route, in the order in which a row tells it
abbrev pub route_faults : Option ℕ → Family → List Opt → List RowFault
route_faults interface family options =
    if_so (is_none interface) fault.NoInterface
    ++ if_so (is_unread (stated_target family options) || has_bad_mask family options) fault.BadTarget
    ++ if_so (is_unread (stated_addr family (codes "gateway") options)) fault.BadGateway
    ++ if_so (is_unread (stated_metric options)) fault.BadMetric
    ++ if_so (is_unread (stated_table options)) fault.BadTable
    ++ if_so (is_wrong (value_of (codes "type") options)) fault.WrongType

-- the row of a route on an interface at this place
abbrev pub route_row : Option ℕ → List Opt → Family → RouteRow
route_row interface options family = record {
  interface = interface;
  target = target family options;
  via = if_read (stated_addr family (codes "gateway") options);
  metric = read_or 0 (stated_metric options);
  table = read_or MAIN_TABLE (stated_table options);
  disabled = truth false (text_of (codes "disabled") options);
  faults = route_faults interface family options;
}

abbrev pub names_of : List InterfaceRow → List (List ℕ)
names_of interfaces = map (λ row. row.name) interfaces

-- the row of a section, where it is one of a route; these are the names of the interfaces
abbrev pub route_in : List (List ℕ) → Section → Option RouteRow
route_in names section = option_map (route_row (place_given names (codes "interface") section.options) section.options)
    (family_of section)

-- the rows of all `route` and `route6` sections, in file order
abbrev pub route_rows : List InterfaceRow → List Section → List RouteRow
route_rows interfaces sections = filter_map (route_in (names_of interfaces)) sections
