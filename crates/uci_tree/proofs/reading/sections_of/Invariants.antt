use Rattle.std.proofs.Common.{◌≡◌}
use Rattle.std.specs.Vec.Iter.{into_iter_items}
use Rattle.uci_tree.specs.Fold.{after_all, nothing}
use Rattle.uci_tree.specs.Index.{IsIndexed, draft_of}
use Rattle.uci_tree.proofs.reading.sections_of.Given as goal

-- the commands that are left make of these sections what all make of nothing
abbrev pub invariant-loop-command : goal.invariant-loop-command
invariant-loop-command l = record { indexed : IsIndexed l.sections; left : after_all (draft_of l.sections) (into_iter_items l.command-iterator) ≡ after_all nothing l.fn.commands.items }
