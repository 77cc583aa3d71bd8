use Rattle.std.proofs.Common.{◌≡◌, ◌++◌, map, drop}
use Rattle.std.specs.Prelude.{filter, not}
use Rattle.serde_json.specs.View.{view}
use Rattle.net_status.specs.Faults.{fault_item}
use Rattle.net_status.specs.Devices.{is_of_value}
use Rattle.net_status.proofs.devices.add_stated_faults.Given as goal

-- the items so far, and those of the others
abbrev pub invariant-loop-fault : goal.invariant-loop-fault
invariant-loop-fault l = map view l.items.items ++ map fault_item (filter (λ found. not (is_of_value found.name)) (drop l.fault-index l.faults)) ≡ map view l.fn.items.items
    ++ map fault_item (filter (λ found. not (is_of_value found.name)) l.faults)
