use Rattle.std.proofs.Common.{◌≡◌, ◌++◌, map, drop}
use Rattle.std.specs.Prelude.{filter}
use Rattle.net_rows.specs.declared.fault_name.FaultName.TheVariants as fault
use Rattle.net_rows.specs.declared.rows.VlanEntry.{VlanEntry}
use Rattle.net_devices.specs.Faults.{about}
use Rattle.net_devices.specs.BridgeVlans as spec
use Rattle.net_devices.proofs.bridge_vlans.add_second_pvids.Given as goal

-- the faults so far, and then those of the other entries
abbrev pub invariant-loop-entry : goal.invariant-loop-entry
invariant-loop-entry l = l.faults ++ map (λ (entry : VlanEntry). about fault.SecondPvid entry.port) (filter (spec.is_second l.earlier.rows l.bridge) (drop l.entry-index l.entries)) ≡ l.initial.faults
    ++ map (λ (entry : VlanEntry). about fault.SecondPvid entry.port) (filter (spec.is_second l.earlier.rows l.bridge) l.entries)
