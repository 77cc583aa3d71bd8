use Rattle.std.proofs.Common.{arith, List, ap, ◌∙◌, rules}
use Rattle.std.proofs.lemmas.List.{take_all}
use Rattle.net_rows.specs.declared.rows.NameRow.{NameRow}
use Rattle.net_reach.specs.Places.{places_by}
use Rattle.net_reach.specs.Reach.{stands_on}
use Rattle.net_reach.proofs.GroupLemmas.{groups_more, groups_below}
use Rattle.net_reach.proofs.above.rows_above.Goals as goal

pub loop-place-init : goal.loop-place-init
loop-place-init c = λ q. search rules

pub add_row-requires-clause-fresh : goal.add_row-requires-clause-fresh
add_row-requires-clause-fresh c = groups_below (stands_on c.args.inputs.now) c.args.rows.now c.loop-place.above c.loop-place.place (omega (arith, c.loop-place-test.true)) c.loop-place.invariant

pub loop-place-preserved : goal.loop-place-preserved
loop-place-preserved c = groups_more (stands_on c.args.inputs.now) c.args.rows.now c.loop-place.above c.add_row.new.above c.loop-place.place c.index-rows-place.result c.loop-place-test.true c.index-rows-place.is c.loop-place.invariant
    c.in_ok-add_row.ensures

pub returns : goal.returns
returns c = λ q. c.loop-place.invariant q ∙ ap (λ (z : List NameRow). places_by (stands_on c.args.inputs.now q) z) (take_all c.loop-place.place c.args.rows.now c.loop-place-test.false)
