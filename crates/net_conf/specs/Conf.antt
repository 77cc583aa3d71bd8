-- The rows of a network configuration (OpenWrt's network configuration).
use Rattle.std.specs.Prelude.{List}
use Rattle.uci_tree.specs.declared.package.Section.{Section}
use Rattle.uci_tree.specs.declared.package.Package.{Package}
use Rattle.net_rows.specs.declared.rows.Conf.{Conf}
use Rattle.net_modern.specs.Rewriting.{modern}
use Rattle.net_devices.specs.Devices.{device_conf}
use Rattle.net_interfaces.specs.Interfaces.{interface_rows}
use Rattle.net_interfaces.specs.Routes.{route_rows}
use Rattle.net_interfaces.specs.Radios.{radio_rows}

-- the rows of the sections of a `network` package of today, and of those of a `wireless` package
abbrev pub rows_of : List Section → List Section → Conf
rows_of network wireless = record {
  interfaces = interface_rows network;
  devices = (device_conf network).devices;
  routes = route_rows (interface_rows network) network;
  radios = radio_rows wireless;
  names = (device_conf network).names;
  vlans = (device_conf network).vlans;
}

-- the rows of a `network` package, which may be in the syntax before release 21.02, and of a `wireless` package
abbrev pub conf : Package → Package → Conf
conf network wireless = rows_of (modern network).sections wireless.sections
