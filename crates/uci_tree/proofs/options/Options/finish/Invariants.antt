use Rattle.std.proofs.Common.{◌≡◌, ◌++◌}
use Rattle.std.specs.Vec.Iter.{into_iter_items}
use Rattle.uci_tree.specs.Slots.{kept}
use Rattle.uci_tree.proofs.options.Options.finish.Given as goal

-- the options so far, and those in the slots that are left
abbrev pub invariant-loop-slot : goal.invariant-loop-slot
invariant-loop-slot l = l.options ++ kept (into_iter_items l.slot-iterator) ≡ kept l.fn.self.slots.items
