use Rattle.std.proofs.Common.{List, map, subst, sym}
use Rattle.net_rows.specs.declared.rows.InterfaceRow.{InterfaceRow}
use Rattle.net_rules.specs.Need.{interface_need}
use Rattle.net_rules.specs.Inputs.{facts_of}
use Rattle.net_view.specs.Places.{HasPlaces}
use Rattle.net_after.proofs.NeededLemmas.{given_more}
use Rattle.net_after.proofs.needed.interface_needs.Goals as goal

pub loop-place-preserved : goal.loop-place-preserved
loop-place-preserved c =
    let key : InterfaceRow → _ = λ row. row.name in
    let has : HasPlaces c.args.levels.now.ports.index.interfaces (map key c.args.interfaces.now) =
    subst (λ (z : List InterfaceRow). HasPlaces c.args.levels.now.ports.index.interfaces (map key z)) (sym c.requires.interfaces) c.requires.levels.ports.index.interfaces in
    given_more key (interface_need (facts_of c.args.inputs.now)) c.args.interfaces.now c.args.levels.now.ports.index.interfaces c.loop-place.place c.index-interfaces-place.result c.loop-place.needs c.add_interface_need.new.needs has
    c.loop-place-test.true c.index-interfaces-place.is c.loop-place.invariant c.in_ok-add_interface_need.ensures
