use Rattle.std.proofs.Common.{◌≡◌, ◌++◌, map}
use Rattle.std.specs.Vec.Iter.{into_iter_items}
use Rattle.uci_staged.specs.Opening.{own_change}
use Rattle.uci_staged.proofs.opening.push_all.Given as goal

-- with those that are left they are all
abbrev pub invariant-loop-delta : goal.invariant-loop-delta
invariant-loop-delta l = l.changes.items ++ map (own_change l.file) (into_iter_items l.delta-iterator) ≡ l.fn.changes.items ++ map (own_change l.file) l.fn.deltas.items
