use Rattle.std.proofs.Common.{◌≡◌, ◌++◌, map, drop}
use Rattle.net_devices.specs.BridgeVlans as spec
use Rattle.net_devices.proofs.bridge_vlans.with_one_pvid.Given as goal

-- the entries so far, and then the others
abbrev pub invariant-loop-entry : goal.invariant-loop-entry
invariant-loop-entry l = l.kept ++ map (spec.with_one_pvid l.earlier.rows l.bridge) (drop l.entry-index l.entries) ≡ map (spec.with_one_pvid l.earlier.rows l.bridge) l.entries
