use Rattle.std.proofs.Common.{take}
use Rattle.net_devices.specs.VlanTable.{HasPvidsToo}
use Rattle.net_devices.proofs.vlan_table.add_pvids.Given as goal

-- the ports of the entries so far are there too
abbrev pub invariant-loop-entry : goal.invariant-loop-entry
invariant-loop-entry l = HasPvidsToo l.initial.pvids l.pvids l.bridge (take l.entry-index l.entries)
