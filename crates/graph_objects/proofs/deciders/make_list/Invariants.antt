use Rattle.std.proofs.Common.{◌≡◌, ◌+◌, ◌-◌, ℕ, length}
use Rattle.graph_objects.specs.Deciders.{slots_of}
use Rattle.graph_objects.proofs.deciders.make_list.Given as goal

-- what is listed stays
abbrev pub invariant-loop-alloc : goal.invariant-loop-alloc
invariant-loop-alloc l = (n : ℕ) → slots_of l.by_id.items n ≡ slots_of l.fn.by_id.items n

abbrev pub decreases-loop-alloc : goal.decreases-loop-alloc
decreases-loop-alloc l = l.id + 1 - length l.by_id.items
