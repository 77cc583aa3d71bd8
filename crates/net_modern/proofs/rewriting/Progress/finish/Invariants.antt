use Rattle.std.proofs.Common.{◌≡◌, ◌++◌}
use Rattle.std.specs.Vec.Iter.{into_iter_items}
use Rattle.net_modern.proofs.rewriting.Progress.finish.Given as goal

-- the sections so far, and those that are left
abbrev pub invariant-loop-section : goal.invariant-loop-section
invariant-loop-section l = l.before.items ++ into_iter_items l.section-iterator ≡ l.fn.self.before.items ++ l.fn.self.added.items
