use Rattle.std.proofs.Common.{arith, ◌+◌, length, ap, sym, subst, ◌∙◌}
use Rattle.graph_objects.specs.Turns.{side_of}
use Rattle.graph_objects.specs.Places.{sooner}
use Rattle.graph_objects.proofs.KeyLemmas.{key_eq, key_same, key_itself}
use Rattle.graph_objects.proofs.SlotLemmas.{steady_on}
use Rattle.graph_objects.proofs.TurnLemmas.{IsBest, best_at_first, best_of_more, none_due, first_is}
use Rattle.graph_objects.proofs.MarkedLemmas.{best_skipped}
use Rattle.graph_objects.proofs.turn.first.Goals as goal

pub loop-index-init : goal.loop-index-init
loop-index-init c = record { best = best_at_first c.args.turn c.args.slots.now.entries; within = omega arith }

pub due_at-requires-clause-within : goal.due_at-requires-clause-within
due_at-requires-clause-within c = omega (arith, c.in-Some.ensures.some.within, c.len-end.ensures.len)

pub loop-index-preserved : goal.loop-index-preserved
loop-index-preserved c =
    let es = c.args.slots.now.entries in
    let index = c.in-Some.index in
    let found = c.in-Some.ensures.some in
    record {
      best = subst (IsBest c.args.turn es (index + 1)) (sym (c.sooner-best.ensures ∙ ap (sooner c.loop-index.best) c.due_at.ensures))
          (best_of_more c.args.turn es index c.loop-index.best (best_skipped c.args.turn es c.args.marks.now c.requires.marked c.loop-index.start index c.loop-index.best found.first c.loop-index.invariant.best));
      within = omega (arith, found.within, c.len-end.ensures.len);
    }

pub loop-index-smaller : goal.loop-index-smaller
loop-index-smaller c = omega (arith, c.in-Some.ensures.some.from, c.in-Some.ensures.some.within, c.len-end.ensures.len)

pub returns-in-Some-best-clause-some : goal.returns-in-Some-best-clause-some
returns-in-Some-best-clause-some c =
    let es = c.args.slots.now.entries in
    let best = best_skipped c.args.turn es c.args.marks.now c.requires.marked c.loop-index.start (length es) c.loop-index.best
    (λ k above below. c.in_default.ensures.none k above (omega (arith, below, c.len-end.ensures.len))) c.loop-index.invariant.best in
    first_is c.args.turn es c.requires.slots (steady_on key_eq key_same key_itself es c.requires.slots c.len-end.ensures.unique (side_of c.args.turn)) c.in-Some-best.placed
    (subst (IsBest c.args.turn es (length es)) c.in-Some-best.is best)

pub returns-in-None-clause-none : goal.returns-in-None-clause-none
returns-in-None-clause-none c =
    let es = c.args.slots.now.entries in
    let best = best_skipped c.args.turn es c.args.marks.now c.requires.marked c.loop-index.start (length es) c.loop-index.best
    (λ k above below. c.in_default.ensures.none k above (omega (arith, below, c.len-end.ensures.len))) c.loop-index.invariant.best in
    none_due c.args.turn es c.requires.slots (steady_on key_eq key_same key_itself es c.requires.slots c.len-end.ensures.unique (side_of c.args.turn))
    (subst (IsBest c.args.turn es (length es)) c.in-None.is best)
