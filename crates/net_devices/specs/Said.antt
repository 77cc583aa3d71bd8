-- What sections say about the names of network devices (OpenWrt's network configuration).
use Rattle.std.specs.Prelude.{ℕ, false, not, List, [], Option, Some, None, if◌then◌else◌, codes, bytes_eq, filter}
use Rattle.std.specs.List.{filter_map}
use Rattle.uci_tree.specs.declared.package.Value.{Value}
use Rattle.uci_tree.specs.declared.package.Value.TheVariants.{One, Many}
use Rattle.uci_tree.specs.declared.package.Opt.{Opt}
use Rattle.uci_tree.specs.declared.package.Section.{Section}
use Rattle.kern_model.specs.Name.{is_name}
use Rattle.kern_model.specs.declared.vlan_name.TheConstants.{LEAST_VLAN_ID, MOST_VLAN_ID}
use Rattle.net_rows.specs.declared.stated.Stated.{Stated}
use Rattle.net_rows.specs.declared.stated.Stated.TheVariants.{Absent, Unread, Read}
use Rattle.net_rows.specs.Options.{value_of, text_of}
use Rattle.net_rows.specs.Stated.{stated, name_of}
use Rattle.net_rows.specs.Words.{item_words}
use Rattle.net_rows.specs.Truth.{truth}
use Rattle.net_rows.specs.Number.{number_within}
use Rattle.net_rows.specs.HardwareAddress.{mac_of}
use Rattle.net_devices.specs.declared.said.StatedKind.{StatedKind}
use Rattle.net_devices.specs.declared.said.StatedKind.TheVariants as kind
use Rattle.net_devices.specs.declared.said.DeviceSection.{DeviceSection}
use Rattle.net_devices.specs.declared.said.Said.{Said}
use Rattle.net_devices.specs.declared.said.Said.TheVariants as said
use Rattle.net_devices.specs.declared.said.TheConstants.{LEAST_MTU, MOST_MTU}
use Rattle.net_devices.specs.EachOnce.{each_once}

-- the words of `ports`, a list or a text with spaces
abbrev pub words_in : Option Value → List (List ℕ)
words_in None = []
words_in (Some value) = item_words value

abbrev pub port_words : List Opt → List (List ℕ)
port_words options = words_in (value_of (codes "ports") options)

-- the words that are device names, and those that are none
abbrev pub port_names : List (List ℕ) → List (List ℕ)
port_names words = each_once (filter is_name words)

abbrev pub bad_ports : List (List ℕ) → List (List ℕ)
bad_ports words = each_once (filter (λ word. not (is_name word)) words)

-- `bridge_empty` is false unless it is given
abbrev pub bridge_kind : List Opt → StatedKind
bridge_kind options = kind.Bridge (truth false (text_of (codes "bridge_empty") options))
    (port_names (port_words options)) (bad_ports (port_words options))

abbrev pub vlan_kind : List Opt → StatedKind
vlan_kind options = kind.Vlan (stated name_of (value_of (codes "ifname") options))
    (stated (number_within LEAST_VLAN_ID MOST_VLAN_ID) (value_of (codes "vid") options))

abbrev pub kind_of_type : List Opt → List ℕ → StatedKind
kind_of_type options text =
    if bytes_eq text (codes "bridge") then bridge_kind options
    else (if bytes_eq text (codes "8021q") then vlan_kind options else kind.Wrong)

-- the kind by the value of `type`
abbrev pub kind_by : List Opt → Option Value → StatedKind
kind_by options None = kind.Untyped
kind_by options (Some (Many items)) = kind.Wrong
kind_by options (Some (One text)) = kind_of_type options text

abbrev pub stated_kind : List Opt → StatedKind
stated_kind options = kind_by options (value_of (codes "type") options)

-- what a `device` section with these options says
abbrev pub device_section : List Opt → DeviceSection
device_section options = record {
  name = stated name_of (value_of (codes "name") options);
  kind = stated_kind options;
  mtu = stated (number_within LEAST_MTU MOST_MTU) (value_of (codes "mtu") options);
  mac = stated mac_of (value_of (codes "macaddr") options);
}

-- the device of an interface, where it is given and is a device name
abbrev pub interface_of : Stated (List ℕ) → Option Said
interface_of Absent = None
interface_of Unread = None
interface_of (Read device) = Some (said.Interface device)

abbrev pub interface_said : List Opt → Option Said
interface_said options = interface_of (stated name_of (value_of (codes "device") options))

-- what a section says; sections of other types say nothing
abbrev pub said_in : Section → Option Said
said_in section =
    if bytes_eq section.kind (codes "device") then Some (said.Device (device_section section.options))
    else (if bytes_eq section.kind (codes "interface") then interface_said section.options else None)

-- what sections say, in their order
abbrev pub said_by : List Section → List Said
said_by sections = filter_map said_in sections
