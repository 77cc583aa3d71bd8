use Rattle.std.proofs.Common.{◌≡◌, ◌≤◌, length}
use Rattle.std.specs.Prelude.{not}
use Rattle.std.specs.FinSet as set
use Rattle.indexmap.specs.IndexSet.{spare}
use Rattle.kern_model.specs.AdmissionTest.{is_at}
use Rattle.kern_model.specs.ObjectOrder.{set_of}
use Rattle.kern_memory.proofs.AtLemmas.{NoneFrom}
use Rattle.kern_memory.proofs.objects.remove_at.Given as goal

-- what stays is that of the start, and none from the place on is at the name
abbrev pub invariant-loop-index : goal.invariant-loop-index
invariant-loop-index l =
    (set.retain (set_of l.objects.keys) (λ o. not (is_at l.name o)) ≡ set.retain (set_of l.fn.objects.keys) (λ o. not (is_at l.name o)))
    × NoneFrom l.name l.objects.keys l.index
    × (l.index ≤ length l.objects.keys)
    × (length l.objects.keys ≤ length l.fn.objects.keys)
    × (spare l.fn.objects ≤ spare l.objects)
