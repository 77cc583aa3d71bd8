use Rattle.std.proofs.Common.{ap, sym, ◌∙◌}
use Rattle.std.specs.Ordering.{nat_cmp, ordering_then, is_lt}
use Rattle.std.specs.Cmp.Lexicographic.{slice_cmp}
use Rattle.kern_model.specs.Line.{line_of}
use Rattle.kern_model.specs.CallOrder.{rank}
use Rattle.given_objects.proofs.OrderLemmas.{turns_in_order}
use Rattle.given_objects.proofs.first.comes_before.Goals as goal

pub returns : goal.returns
returns c =
    c.is_lt.ensures
    ∙ ap is_lt (c.call_order.ensures
    ∙ (λ i. ordering_then (nat_cmp (rank (c.call_of.ensures i)) (rank (c.call_of-2.ensures i))) (slice_cmp nat_cmp (line_of (c.call_of.ensures i)) (line_of (c.call_of-2.ensures i))))
    ∙ sym (turns_in_order c.args.turn c.args.one.now c.args.other.now c.requires.one c.requires.other (c.has_form.ensures c.requires.one) (c.has_form-2.ensures c.requires.other)))
