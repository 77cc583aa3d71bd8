use Rattle.std.proofs.Common.{◌≡◌}
use Rattle.std.specs.Vec.Iter.{into_iter_items}
use Rattle.uci_tree.specs.Fold.{after_all}
use Rattle.uci_tool.specs.Merging.{IsWithin, draft_of}
use Rattle.uci_tool.proofs.merging.Merge.with_all.Given as goal

-- the commands that are left make of these sections what all make of the first
abbrev pub invariant-loop-command : goal.invariant-loop-command
invariant-loop-command l = record { within : IsWithin l.merge; left : after_all (draft_of l.merge) (into_iter_items l.command-iterator) ≡ after_all (draft_of l.fn.self) l.fn.commands.items }
