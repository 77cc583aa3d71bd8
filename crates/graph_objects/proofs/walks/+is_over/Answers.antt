use Rattle.std.proofs.Common.{arith}
use Rattle.graph_objects.specs.declared.slot.Side.TheVariants.{Held}
use Rattle.graph_objects.specs.Slots.{set_on}
use Rattle.graph_objects.proofs.WalkLemmas.{over_same, over_none_here, over_by_more, not_so_high}
use Rattle.graph_objects.proofs.walks.+is_over.Goals as goal

pub returns-then-same : goal.returns-then-same
returns-then-same t c few = over_same (set_on Held c.args.slots.now.entries) c.same.result c.args.base.now c.args.name.now c.same.ensures c.if-same.true

pub returns-in_default : goal.returns-in_default
returns-in_default t c few = over_none_here (set_on Held c.args.slots.now.entries) c.in_default.ensures.steady c.same.result c.args.base.now c.args.name.now c.same.ensures c.if-same.false c.in_default.ensures.none

pub returns-then-steps-eq0 : goal.returns-then-steps-eq0
returns-then-steps-eq0 t c few = absurd (not_so_high (set_on Held c.args.slots.now.entries) c.in-Some.ensures.steady c.args.name.now c.in-Some.lower c.in-Some.ensures.some (omega arith))

pub returns : goal.returns
returns t c few = over_by_more (set_on Held c.args.slots.now.entries) c.in-Some.ensures.steady c.same.result c.args.base.now c.args.name.now c.in-Some.lower c.args.steps c.is_over.result c.same.ensures c.if-same.false c.in-Some.ensures.some
    c.is_over.ensures few
