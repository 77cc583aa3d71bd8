use Rattle.std.proofs.Common.{◌≡◌, map, take}
use Rattle.net_rules.specs.After as spec
use Rattle.net_after.proofs.changes.carrier_set.Given as goal

abbrev pub invariant-loop-entry : goal.invariant-loop-entry
invariant-loop-entry l = l.now ≡ map (spec.carrier_set l.name l.on) (take l.entry-index l.devices)
