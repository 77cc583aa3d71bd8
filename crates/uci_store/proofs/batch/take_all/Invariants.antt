use Rattle.std.proofs.Common.{◌≡◌, Ok, drop}
use Rattle.uci_store.specs.Batch.{taken_from, all_taken}
use Rattle.uci_store.proofs.batch.take_all.Given as goal

-- those that are left, taken from here, come to what all of them come to
abbrev pub invariant-loop-delta : goal.invariant-loop-delta
invariant-loop-delta l = all_taken l.fn.tree l.deltas ≡ taken_from (Ok l.tree) (drop l.delta-index l.deltas)
