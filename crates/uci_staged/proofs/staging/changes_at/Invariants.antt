use Rattle.std.proofs.Common.{◌≡◌, ◌++◌}
use Rattle.std.specs.Vec.Iter.{into_iter_items}
use Rattle.uci_staged.specs.Change.{changes_at}
use Rattle.uci_staged.proofs.staging.changes_at.Given as goal

-- with those that are left they are all
abbrev pub invariant-loop-delta : goal.invariant-loop-delta
invariant-loop-delta l = l.changes.items ++ changes_at l.holder l.file (into_iter_items l.delta-iterator) ≡ changes_at l.holder l.file l.fn.deltas.items
