use Rattle.std.proofs.Common.{◌≡◌, ◌++◌, map, drop}
use Rattle.serde_json.specs.View.{view}
use Rattle.net_status.specs.Faults.{fault_item}
use Rattle.net_status.proofs.faults.add_faults.Given as goal

-- the items so far, and those of the others
abbrev pub invariant-loop-fault : goal.invariant-loop-fault
invariant-loop-fault l = map view l.items.items ++ map fault_item (drop l.fault-index l.faults) ≡ map view l.fn.items.items ++ map fault_item l.faults
