use Rattle.std.proofs.Common.{◌≡◌, ◌+◌, take}
use Rattle.net_devices.specs.declared.bridge_vlans.TheConstants.{MOST_VLAN_ENTRIES}
use Rattle.net_devices.specs.BridgeVlans as spec
use Rattle.net_devices.proofs.bridge_vlans.has_too_many_entries.Given as goal

-- what is left, with the entries so far
abbrev pub invariant-loop-row : goal.invariant-loop-row
invariant-loop-row l = l.left + spec.entry_count (take l.row-index l.rows) ≡ MOST_VLAN_ENTRIES
