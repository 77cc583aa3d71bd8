-- What the handlers of protocols and of radios are to be asked.
use Rattle.std.specs.Prelude.{ℕ, List, map, Bool, true, false, not, ◌&&◌, Option, Some, None, if◌then◌else◌, bytes_eq}
use Rattle.std.specs.List.{list_any}
use Rattle.std.specs.Ordering.{nat_cmp}
use Rattle.std.specs.declared.cmp.Ordering.{Ordering}
use Rattle.std.specs.Cmp.Lexicographic.{slice_cmp, pointwise}
use Rattle.plane_words.specs.InOrder.{ordered}
use Rattle.uci_tree.specs.declared.package.Opt.{Opt}
use Rattle.uci_tree.specs.declared.package.Value.{Value}
use Rattle.uci_tree.specs.declared.package.Value.TheVariants.{One, Many}
use Rattle.net_rows.specs.declared.rows.InterfaceRow.{InterfaceRow}
use Rattle.net_rows.specs.declared.rows.RadioRow.{RadioRow}
use Rattle.net_rows.specs.declared.rows.WifiRow.{WifiRow}
use Rattle.net_rules.specs.declared.request.InterfaceRequest.{InterfaceRequest}
use Rattle.net_rules.specs.declared.request.RadioRequest.{RadioRequest}
use Rattle.net_rules.specs.declared.request.WifiRequest.{WifiRequest}
use Rattle.net_rules.specs.Facts.{Facts}
use Rattle.net_rules.specs.Rows.{asks_nothing, enabled_rows}
use Rattle.net_rules.specs.RadioPorts.{device_of}
use Rattle.net_rules.specs.Interfaces.{is_ready}

-- options in byte order of their names: those of two rows are one map exactly where these lists are
-- equal
abbrev pub option_cmp : Opt → Opt → Ordering
option_cmp a b = slice_cmp nat_cmp a.name b.name

abbrev pub in_order : List Opt → List Opt
in_order options = ordered option_cmp options

-- what the handler of an interface is asked
abbrev pub interface_request : Facts → InterfaceRow → InterfaceRequest
interface_request facts row = record {
  name = row.name;
  proto = row.proto;
  options = in_order row.options;
  device = device_of facts row;
}

-- an interface that is ready has a request, unless the configuration says all of it
abbrev pub interface_need : Facts → InterfaceRow → Option InterfaceRequest
interface_need facts row =
    if is_ready facts row && not (asks_nothing row.proto)
    then Some (interface_request facts row) else None

abbrev pub wifi_request : WifiRow → WifiRequest
wifi_request row = record { options = in_order row.options }

-- what the handler of a radio is asked
abbrev pub radio_request : RadioRow → RadioRequest
radio_request radio = record {
  name = radio.name;
  options = in_order radio.options;
  rows = map wifi_request (enabled_rows radio);
}

-- a radio that is not disabled and has a row that is not has a request
abbrev pub radio_need : RadioRow → Option RadioRequest
radio_need radio =
    if not radio.disabled && list_any (λ row. not row.disabled) radio.rows
    then Some (radio_request radio) else None

-- tests of equal options and asks
abbrev pub same_value : Value → Value → Bool
same_value (One a) (One b) = bytes_eq a b
same_value (One a) (Many others) = false
same_value (Many items) (One b) = false
same_value (Many items) (Many others) = pointwise bytes_eq items others

abbrev pub same_option : Opt → Opt → Bool
same_option a b = bytes_eq a.name b.name && same_value a.value b.value

abbrev pub same_options : List Opt → List Opt → Bool
same_options options others = pointwise same_option options others

abbrev pub same_device : Option (List ℕ) → Option (List ℕ) → Bool
same_device None None = true
same_device None (Some b) = false
same_device (Some a) None = false
same_device (Some a) (Some b) = bytes_eq a b

abbrev pub same_interface_request : InterfaceRequest → InterfaceRequest → Bool
same_interface_request a b =
    bytes_eq a.name b.name
    && (bytes_eq a.proto b.proto
    && (same_options a.options b.options && same_device a.device b.device))

abbrev pub same_radio_request : RadioRequest → RadioRequest → Bool
same_radio_request a b =
    bytes_eq a.name b.name
    && (same_options a.options b.options
    && pointwise (λ x y. same_options x.options y.options) a.rows b.rows)
