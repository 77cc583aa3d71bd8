use Rattle.std.proofs.Common.{◌≡◌, ◌++◌, take}
use Rattle.uci_cli.specs.Changes.{change_lines}
use Rattle.uci_cli.proofs.changes.print_changes.Given as goal

abbrev pub invariant-loop-delta : goal.invariant-loop-delta
invariant-loop-delta l = l.out.items ≡ l.fn.out.items ++ change_lines (take l.delta-index l.deltas)
