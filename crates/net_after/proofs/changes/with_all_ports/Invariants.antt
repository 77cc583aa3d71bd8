use Rattle.std.proofs.Common.{◌≡◌, ◌++◌, map}
use Rattle.std.specs.Vec.Iter.{into_iter_items}
use Rattle.net_rules.specs.After.{answered_radio}
use Rattle.net_after.proofs.changes.with_all_ports.Given as goal

abbrev pub invariant-loop-asked : goal.invariant-loop-asked
invariant-loop-asked l = l.now ++ map (answered_radio l.radio l.number l.ports) (into_iter_items l.asked-iterator) ≡ map (answered_radio l.radio l.number l.ports) l.fn.radios
