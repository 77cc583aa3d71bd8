-- The limits of the lists of a configuration (rules of our own).
use Rattle.std.specs.Prelude.{ℕ, List, length, nat_lt, sum_by, Option, Some, None, if◌then◌else◌}
use Rattle.net_rows.specs.declared.rows.Conf.{Conf}
use Rattle.net_rows.specs.declared.rows.RadioRow.{RadioRow}
use Rattle.net_devices.specs.declared.devices.TheConstants.{MOST_NAMES}
use Rattle.net_devices.specs.declared.bridge_vlans.TheConstants.{MOST_VLAN_ROWS, MOST_VLAN_ENTRIES}
use Rattle.net_devices.specs.BridgeVlans.{entry_count}
use Rattle.net_conf.specs.declared.limits.TheConstants.{MOST_INTERFACES, MOST_ROUTES, MOST_RADIOS, MOST_WIFI_ROWS}

-- a limit, where a list is longer, and else what comes behind
abbrev pub over_or : ℕ → ℕ → Option ℕ → Option ℕ
over_or most count later = if nat_lt most count then Some most else later

-- how many rows of interfaces the radios have
abbrev pub wifi_count : List RadioRow → ℕ
wifi_count radios = sum_by (λ radio. length radio.rows) radios

-- the first limit that the lists of `bridge-vlan` sections pass
abbrev pub vlan_limit : Conf → Option ℕ
vlan_limit conf = over_or MOST_VLAN_ROWS (length conf.vlans) (over_or MOST_VLAN_ENTRIES (entry_count conf.vlans) None)

-- the first limit that is passed by another list than those of interfaces and of names
abbrev pub later_limit : Conf → Option ℕ
later_limit conf =
    over_or MOST_ROUTES (length conf.routes)
    (over_or MOST_RADIOS (length conf.radios)
    (over_or MOST_WIFI_ROWS (wifi_count conf.radios) (vlan_limit conf)))

-- the limit that is passed: of several the first, in the order of interfaces, names, routes, radios, their rows of
-- interfaces, rows of VLANs of bridges, and their entries
abbrev pub passed_limit : Conf → Option ℕ
passed_limit conf = over_or MOST_INTERFACES (length conf.interfaces)
    (over_or MOST_NAMES (length conf.names) (later_limit conf))
