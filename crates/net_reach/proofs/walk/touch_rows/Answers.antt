use Rattle.std.proofs.Common.{arith, ℕ, List, take, sym, subst}
use Rattle.std.proofs.lemmas.List.{take_all, take_more}
use Rattle.net_reach.specs.Walk.{HasTouched}
use Rattle.net_reach.proofs.WalkLemmas.{touched_none}
use Rattle.net_reach.proofs.walk.touch_rows.Goals as goal

pub loop-row-init : goal.loop-row-init
loop-row-init c = touched_none c.args.at_device.now c.args.at_l3_device.now c.args.names.now c.args.touched.now

pub loop-row-preserved : goal.loop-row-preserved
loop-row-preserved c =
    subst (λ (z : List ℕ). HasTouched c.args.at_device.now c.args.at_l3_device.now c.args.names.now z c.args.touched.now c.touch_row.new.touched)
    (sym (take_more c.args.rows.now c.loop-row.row-index 0 c.loop-row-test.true))
    (c.touch_row.ensures c.args.touched.now (take c.loop-row.row-index c.args.rows.now) c.loop-row.invariant)

pub returns : goal.returns
returns c =
    subst (λ (z : List ℕ). HasTouched c.args.at_device.now c.args.at_l3_device.now c.args.names.now z c.args.touched.now c.loop-row.touched)
    (take_all c.loop-row.row-index c.args.rows.now (omega (arith, c.loop-row-test.false))) c.loop-row.invariant
