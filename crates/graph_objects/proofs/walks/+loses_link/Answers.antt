use Rattle.std.proofs.Common.{arith}
use Rattle.graph_objects.specs.declared.slot.Side.TheVariants.{Held, Wanted}
use Rattle.graph_objects.specs.Slots.{set_on}
use Rattle.graph_objects.proofs.WalkLemmas.{loses_link_none, loses_link_unwanted, loses_link_bridge, loses_link_by_more, vlan_here, not_so_high}
use Rattle.graph_objects.proofs.walks.+loses_link.Goals as goal

pub returns-in_default : goal.returns-in_default
returns-in_default t c few = loses_link_none (set_on Held c.args.slots.now.entries) (set_on Wanted c.args.slots.now.entries) c.in_default.ensures.steady c.args.name.now c.in_default.ensures.none

pub returns-then-not-has : goal.returns-then-not-has
returns-then-not-has t c few = loses_link_unwanted (set_on Held c.args.slots.now.entries) (set_on Wanted c.args.slots.now.entries) c.in-Some.ensures.steady c.args.name.now c.in-Some.kind c.has.result c.in-Some.ensures.some c.has.ensures
    c.if-not-has.true

pub returns-in_default-lower_name : goal.returns-in_default-lower_name
returns-in_default-lower_name t c few = loses_link_bridge (set_on Held c.args.slots.now.entries) (set_on Wanted c.args.slots.now.entries) c.in-Some.ensures.steady c.args.name.now c.in-Some.kind c.has.result c.in_default-lower_name.ensures
    c.in-Some.ensures.some c.has.ensures c.if-not-has.false

pub returns-then-steps-eq0 : goal.returns-then-steps-eq0
returns-then-steps-eq0 t c few =
    let held = set_on Held c.args.slots.now.entries in
    absurd (not_so_high held c.in-Some.ensures.steady c.args.name.now c.in-Some-lower_name.lower (vlan_here held c.args.name.now c.in-Some-lower_name.lower c.in-Some.kind c.in-Some-lower_name.ensures c.in-Some.ensures.some) (omega arith))

pub returns : goal.returns
returns t c few = loses_link_by_more (set_on Held c.args.slots.now.entries) (set_on Wanted c.args.slots.now.entries) c.in-Some.ensures.steady c.args.name.now c.in-Some-lower_name.lower c.in-Some.kind c.has.result c.args.steps
    c.loses_link.result
    c.in-Some-lower_name.ensures c.in-Some.ensures.some c.has.ensures c.if-not-has.false c.loses_link.ensures few
