-- The first limit that is passed.
use Rattle.std.proofs.Common.{◌≡◌, ℕ, suc, ◌<◌, ◌≤◌, List, [], ◌∷◌, ◌++◌, length, Option, Some, None, refl, sym, ap, ◌∙◌, subst, lt-ltb, le-ltb}
use Rattle.uci_tree.specs.declared.package.Package.{Package}
use Rattle.net_rows.specs.declared.rows.Conf.{Conf}
use Rattle.net_rows.specs.declared.rows.InterfaceRow.{InterfaceRow}
use Rattle.net_rows.specs.declared.rows.RouteRow.{RouteRow}
use Rattle.net_rows.specs.declared.rows.RadioRow.{RadioRow}
use Rattle.net_modern.specs.Rewriting.{modern}
use Rattle.net_devices.specs.declared.said.Said.{Said}
use Rattle.net_devices.specs.declared.devices.TheConstants.{MOST_NAMES}
use Rattle.net_devices.specs.Counted.{all_said}
use Rattle.net_devices.specs.NameRows.{rows_behind, name_rows}
use Rattle.net_devices.specs.declared.devices.DeviceConf.{DeviceConf}
use Rattle.net_devices.specs.Devices.{all_names, device_conf, IsOverLimit}
use Rattle.net_interfaces.specs.Interfaces.{interface_rows}
use Rattle.net_interfaces.specs.Routes.{route_rows}
use Rattle.net_interfaces.specs.Radios.{radio_rows}
use Rattle.net_conf.specs.declared.limits.TheConstants.{MOST_INTERFACES}
use Rattle.net_conf.specs.Conf.{conf}
use Rattle.net_conf.specs.Limits.{over_or, later_limit, passed_limit}

over : (most count : ℕ) (later : Option ℕ) → most < count → over_or most count later ≡ Some most
over most count later passed = rw (lt-ltb most count passed) refl

within : (most count : ℕ) (later : Option ℕ) → count ≤ most → over_or most count later ≡ later
within most count later small = rw (le-ltb most count small) refl

length-rows_behind : (said : List Said) (earlier names : List (List ℕ)) → length (rows_behind said earlier names) ≡ length names
length-rows_behind said earlier [] = refl
length-rows_behind said earlier (name ∷ names) = ap (λ n. suc n) (length-rows_behind said (earlier ++ name ∷ []) names)

count_of_names : (network wireless : Package) → length (conf network wireless).names ≡ length (all_names (modern network).sections)
count_of_names network wireless = length-rows_behind (all_said (modern network).sections) [] (all_names (modern network).sections)

-- too many interfaces
pub interfaces_over : (network wireless : Package) (interfaces : List InterfaceRow) → interfaces ≡ interface_rows (modern network).sections → MOST_INTERFACES < length interfaces → passed_limit (conf network wireless) ≡ Some MOST_INTERFACES
interfaces_over network wireless interfaces are passed = over MOST_INTERFACES (length (interface_rows (modern network).sections)) _ (subst (λ (z : List InterfaceRow). MOST_INTERFACES < length z) are passed)

past_interfaces : (network wireless : Package) (interfaces : List InterfaceRow) → interfaces ≡ interface_rows (modern network).sections → length interfaces ≤ MOST_INTERFACES → passed_limit (conf network wireless)
    ≡ over_or MOST_NAMES (length (conf network wireless).names) (later_limit (conf network wireless))
past_interfaces network wireless interfaces are small = within MOST_INTERFACES (length (interface_rows (modern network).sections)) _ (subst (λ (z : List InterfaceRow). length z ≤ MOST_INTERFACES) are small)

-- too many names
pub names_over : (network wireless : Package) (interfaces : List InterfaceRow) (number : ℕ) → interfaces ≡ interface_rows (modern network).sections → length interfaces ≤ MOST_INTERFACES → IsOverLimit (modern network).sections number
    → passed_limit (conf network wireless) ≡ Some number
names_over network wireless interfaces number are small passed =
    past_interfaces network wireless interfaces are small
    ∙ over MOST_NAMES (length (conf network wireless).names) _ (subst (λ (z : ℕ). MOST_NAMES < z) (sym (count_of_names network wireless)) passed.over)
    ∙ ap (λ n. Some n) (sym passed.limit)

-- neither
pub later : (network wireless : Package) (interfaces : List InterfaceRow) → interfaces ≡ interface_rows (modern network).sections → length interfaces ≤ MOST_INTERFACES → length (all_names (modern network).sections) ≤ MOST_NAMES
    → passed_limit (conf network wireless) ≡ later_limit (conf network wireless)
later network wireless interfaces are small few =
    past_interfaces network wireless interfaces are small
    ∙ within MOST_NAMES (length (conf network wireless).names) _ (subst (λ (z : ℕ). z ≤ MOST_NAMES) (sym (count_of_names network wireless)) few)

-- ---- all rows

abbrev pub rows_by : List InterfaceRow → DeviceConf → List RouteRow → List RadioRow → Conf
rows_by interfaces found routes radios = record {
  interfaces = interfaces;
  devices = found.devices;
  routes = routes;
  radios = radios;
  names = found.names;
  vlans = found.vlans;
}

pub are_all : (network wireless : Package) (interfaces : List InterfaceRow) (found : DeviceConf) (routes : List RouteRow) (radios : List RadioRow) → interfaces ≡ interface_rows (modern network).sections → found
    ≡ device_conf (modern network).sections → routes ≡ route_rows interfaces (modern network).sections → radios ≡ radio_rows wireless.sections → rows_by interfaces found routes radios ≡ conf network wireless
are_all network wireless interfaces found routes radios is_i is_f is_o is_r =
    ap (λ (z : List RouteRow). rows_by interfaces found z radios) is_o
    ∙ ap (λ (z : List InterfaceRow). rows_by z found (route_rows z (modern network).sections) radios) is_i
    ∙ ap (λ (z : DeviceConf). rows_by (interface_rows (modern network).sections) z (route_rows (interface_rows (modern network).sections) (modern network).sections) radios) is_f
    ∙ ap (λ (z : List RadioRow). rows_by (interface_rows (modern network).sections) (device_conf (modern network).sections) (route_rows (interface_rows (modern network).sections) (modern network).sections) z) is_r
