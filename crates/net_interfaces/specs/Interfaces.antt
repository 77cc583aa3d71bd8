-- The rows of `interface` sections (OpenWrt's network configuration).
use Rattle.std.specs.Prelude.{Bool, true, false, not, ◌||◌, List, codes, bytes_eq, map, filter}
use Rattle.uci_tree.specs.declared.package.Opt.{Opt}
use Rattle.uci_tree.specs.declared.package.Section.{Section}
use Rattle.net_rows.specs.Options.{text_of}
use Rattle.net_rows.specs.Truth.{truth}
use Rattle.net_rows.specs.declared.rows.InterfaceRow.{InterfaceRow}
use Rattle.net_interfaces.specs.declared.kinds.TheConstants.{INTERFACE}
use Rattle.net_interfaces.specs.Given.{if_read, read_or}
use Rattle.net_interfaces.specs.Addresses.{proto_of, is_static, addresses}
use Rattle.net_interfaces.specs.Gateways.{gateways}
use Rattle.net_interfaces.specs.Faults.{stated_device, stated_metric, faults}

abbrev pub is_interface : Section → Bool
is_interface section = bytes_eq section.kind INTERFACE.now

-- an option that says how the interface is run, and is no business of its protocol
abbrev pub is_own : Opt → Bool
is_own option =
    bytes_eq option.name (codes "proto") || bytes_eq option.name (codes "device") || bytes_eq option.name (codes "auto")
    || bytes_eq option.name (codes "disabled") || bytes_eq option.name (codes "force_link")

-- the options that the protocol is told
abbrev pub told : List Opt → List Opt
told options = filter (λ option. not (is_own option)) options

-- the row of a section
abbrev pub interface_row : Section → InterfaceRow
interface_row section = record {
  name = section.name;
  anonymous = section.anonymous;
  proto = proto_of section.options;
  device = if_read (stated_device section.options);
  autostart = truth true (text_of (codes "auto") section.options);
  disabled = truth false (text_of (codes "disabled") section.options);
  force_link = truth (is_static section.options) (text_of (codes "force_link") section.options);
  metric = read_or 0 (stated_metric section.options);
  addresses = addresses section.options;
  gateways = gateways section.options;
  options = told section.options;
  faults = faults section.options;
}

-- the rows of all `interface` sections, in file order
abbrev pub interface_rows : List Section → List InterfaceRow
interface_rows sections = map interface_row (filter is_interface sections)
