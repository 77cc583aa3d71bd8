use Rattle.std.proofs.Common.{take}
use Rattle.uci_tree.specs.Split.{HasNone}
use Rattle.uci_tree.proofs.split.cut_first.Given as goal

-- the bytes so far are others
abbrev pub invariant-loop-at : goal.invariant-loop-at
invariant-loop-at l = HasNone l.byte (take l.at l.text)
