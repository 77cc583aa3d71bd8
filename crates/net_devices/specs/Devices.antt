-- What a `network` package says about devices (OpenWrt's network configuration).
use Rattle.std.specs.Prelude.{ℕ, ◌≡◌, ◌<◌, List, length}
use Rattle.uci_tree.specs.declared.package.Section.{Section}
use Rattle.net_devices.specs.declared.devices.DeviceConf.{DeviceConf}
use Rattle.net_devices.specs.declared.devices.TheConstants.{MOST_NAMES}
use Rattle.net_devices.specs.Counted.{all_said}
use Rattle.net_devices.specs.Names.{names}
use Rattle.net_devices.specs.NameRows.{device_rows, name_rows}
use Rattle.net_devices.specs.BridgeVlans.{vlan_rows}

-- the names that the sections speak of
abbrev pub all_names : List Section → List (List ℕ)
all_names sections = names (all_said sections)

-- the rows of `device` sections, of names, and of `bridge-vlan` sections
abbrev pub device_conf : List Section → DeviceConf
device_conf sections = record {
  devices = device_rows (all_said sections) sections;
  names = name_rows (all_said sections) (all_names sections);
  vlans = vlan_rows (all_said sections) sections;
}

-- there are more names than the limit, which is this number
pub record IsOverLimit (sections : List Section) (number : ℕ) : Type 0 where
  pub limit : number ≡ MOST_NAMES
  pub over : MOST_NAMES < length (all_names sections)
