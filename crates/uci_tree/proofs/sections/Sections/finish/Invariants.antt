use Rattle.std.proofs.Common.{◌≡◌, ◌++◌}
use Rattle.std.specs.Vec.Iter.{into_iter_items}
use Rattle.uci_tree.specs.Slots.{sections_of}
use Rattle.uci_tree.proofs.sections.Sections.finish.Given as goal

-- the sections so far, and those that are left
abbrev pub invariant-loop-section : goal.invariant-loop-section
invariant-loop-section l = l.finished.items ++ sections_of (into_iter_items l.section-iterator) ≡ sections_of l.fn.self.sections.items
