use Rattle.std.proofs.Common.{◌≡◌, ◌++◌, map}
use Rattle.std.specs.Vec.Iter.{into_iter_items}
use Rattle.net_rules.specs.After.{answered_interface}
use Rattle.net_after.proofs.changes.with_answers.Given as goal

abbrev pub invariant-loop-asked : goal.invariant-loop-asked
invariant-loop-asked l = l.now ++ map (answered_interface l.interface l.number l.answer) (into_iter_items l.asked-iterator) ≡ map (answered_interface l.interface l.number l.answer) l.fn.interfaces
