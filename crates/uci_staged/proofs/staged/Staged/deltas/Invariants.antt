use Rattle.std.proofs.Common.{◌≡◌, take}
use Rattle.uci_staged.specs.Change.{deltas_in}
use Rattle.uci_staged.proofs.staged.Staged.deltas.Given as goal

-- those of the changes so far
abbrev pub invariant-loop-change : goal.invariant-loop-change
invariant-loop-change l = l.deltas ≡ deltas_in l.holder l.file (take l.change-index l.self.changes.items)
