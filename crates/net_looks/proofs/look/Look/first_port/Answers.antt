use Rattle.std.proofs.Common.{◌≡◌, List, map, ap, sym, subst, ◌∙◌}
use Rattle.std.specs.List.{flat_map}
use Rattle.std.proofs.lemmas.List.{take_all}
use Rattle.net_rows.specs.declared.rows.Conf.{Conf}
use Rattle.net_rows.specs.declared.rows.RadioRow.{RadioRow}
use Rattle.net_rules.specs.Firsts.{firsts}
use Rattle.net_rules.specs.RadioPorts.{ports_of_radio}
use Rattle.net_view.specs.Places.{HasPlaces}
use Rattle.net_looks.specs.Look.{facts_at}
use Rattle.net_looks.specs.Ports.{port_for}
use Rattle.net_looks.proofs.PortLemmas.{one_radio_more}
use Rattle.net_looks.proofs.look.Look.first_port.Goals as goal

pub loop-place-preserved : goal.loop-place-preserved
loop-place-preserved c =
    let all : c.as_slice-radios.result.now ≡ c.args.self.now.inputs.now.inputs.conf.radios = c.as_slice-radios.ensures ∙ ap (λ (conf : Conf). conf.radios) c.conf.ensures.rows in
    let has : HasPlaces c.args.self.now.reach.now.radios (map (λ (row : RadioRow). row.name) c.as_slice-radios.result.now) =
    subst (λ (z : List RadioRow). HasPlaces c.args.self.now.reach.now.radios (map (λ (row : RadioRow). row.name) z)) (sym all) c.requires.reaches.radios in
    one_radio_more (facts_at c.args.self.now) c.args.interface.now c.as_slice-radios.result.now c.args.self.now.reach.now.radios c.loop-place.place c.index-radios-place.result c.loop-place.found c.port_or-found.result has
    c.loop-place-test.true c.index-radios-place.is c.loop-place.invariant c.port_or-found.ensures

pub returns : goal.returns
returns c =
    let all : c.as_slice-radios.result.now ≡ c.args.self.now.inputs.now.inputs.conf.radios = c.as_slice-radios.ensures ∙ ap (λ (conf : Conf). conf.radios) c.conf.ensures.rows in
    c.loop-place.invariant
    ∙ ap (λ (z : List RadioRow). port_for c.args.interface.now (flat_map (ports_of_radio (facts_at c.args.self.now)) (firsts (λ (row : RadioRow). row.name) z)))
    (take_all c.loop-place.place c.as_slice-radios.result.now c.loop-place-test.false ∙ all)
