use Rattle.net_rows.specs.declared.rows.RadioRow.{RadioRow}
use Rattle.net_rules.specs.Need.{radio_need}
use Rattle.net_after.proofs.NeededLemmas.{given_more}
use Rattle.net_after.proofs.needed.radio_needs.Goals as goal

pub loop-place-preserved : goal.loop-place-preserved
loop-place-preserved c = given_more (λ (row : RadioRow). row.name) radio_need c.args.radios.now c.in_ok-places.places c.loop-place.place c.index-radios-place.result c.loop-place.needs c.add_radio_need.new.needs c.in_ok-places.ensures
    c.loop-place-test.true c.index-radios-place.is c.loop-place.invariant c.in_ok-add_radio_need.ensures
