use Rattle.std.proofs.Common.{List, ℕ, map, subst, sym}
use Rattle.net_rows.specs.declared.rows.RadioRow.{RadioRow}
use Rattle.net_rules.specs.Inputs.{facts_of}
use Rattle.net_rules.specs.RadioPorts.{ports_of_radio}
use Rattle.net_view.specs.Places.{HasPlaces}
use Rattle.net_view.specs.RadioPorts.{as_answered}
use Rattle.net_view.proofs.PortLemmas.{fold_more}
use Rattle.net_view.proofs.radio_ports.answered_ports.Goals as goal

pub loop-place-preserved : goal.loop-place-preserved
loop-place-preserved c =
    let key : RadioRow → List ℕ = λ row. row.name in
    let has : HasPlaces c.args.index.now.radios (map key c.args.radios.now) = subst (λ (z : List RadioRow). HasPlaces c.args.index.now.radios (map key z)) (sym c.requires.radios) c.requires.index.radios in
    fold_more key (ports_of_radio (facts_of c.args.inputs.now)) as_answered c.args.radios.now c.args.index.now.radios c.loop-place.place c.index-radios-place.result c.loop-place.ports.items c.add_if_first.new.ports.items has
    c.loop-place-test.true c.index-radios-place.is c.loop-place.invariant c.in_ok-add_if_first.ensures
