use Rattle.std.proofs.Common.{arith, length, refl, ◌∙◌}
use Rattle.graph_objects.proofs.ListedLemmas.{filled_none, filled_to, filled_more, filled_all}
use Rattle.graph_objects.proofs.order.fill.Goals as goal

pub loop-index-init : goal.loop-index-init
loop-index-init c = record { filled = filled_none c.args.turn c.args.slots.now.entries c.clear.new.self.items c.clear.ensures.items; within = omega arith; count = omega (arith, c.clear.ensures.len); capacity = c.clear.ensures.capacity }

pub due_at-requires-clause-within : goal.due_at-requires-clause-within
due_at-requires-clause-within c = omega (arith, c.in-Some.ensures.some.within, c.len-end.ensures.len)

pub add-requires : goal.add-requires
add-requires c = omega (arith, c.loop-index.invariant.count, c.loop-index.invariant.capacity, c.requires.room, c.in-Some.ensures.some.from, c.in-Some.ensures.some.within, c.len-end.ensures.len)

pub loop-index-preserved : goal.loop-index-preserved
loop-index-preserved c =
    let es = c.args.slots.now.entries in
    let index = c.in-Some.index in
    let found = c.in-Some.ensures.some in
    record {
      filled = filled_more c.args.turn es index c.loop-index.list.items c.add.new.list.items c.due_at.result c.due_at.ensures c.add.ensures.items
          (filled_to c.args.turn es c.args.marks.now c.loop-index.start index c.loop-index.list.items c.requires.marked found.first c.loop-index.invariant.filled);
      within = omega (arith, found.within, c.len-end.ensures.len);
      count = omega (arith, c.add.ensures.size, c.loop-index.invariant.count, found.from);
      capacity = c.add.ensures.capacity ∙ c.loop-index.invariant.capacity;
    }

pub loop-index-smaller : goal.loop-index-smaller
loop-index-smaller c = omega (arith, c.in-Some.ensures.some.from, c.in-Some.ensures.some.within, c.len-end.ensures.len)

pub returns-clause-due : goal.returns-clause-due
returns-clause-due c =
    let es = c.args.slots.now.entries in
    filled_all c.args.turn es (length es) c.loop-index.list.items refl
    (filled_to c.args.turn es c.args.marks.now c.loop-index.start (length es) c.loop-index.list.items c.requires.marked (λ k above below. c.in_default.ensures.none k above (omega (arith, below, c.len-end.ensures.len)))
    c.loop-index.invariant.filled)
