use Rattle.std.proofs.Common.{ℕ, List, map, subst, sym}
use Rattle.serde_json.specs.View.{view}
use Rattle.net_rows.specs.declared.rows.InterfaceRow.{InterfaceRow}
use Rattle.net_view.specs.Places.{HasPlaces}
use Rattle.net_status.specs.Interfaces.{interface_shown}
use Rattle.net_status.proofs.ShownLemmas.{shown_more}
use Rattle.net_status.proofs.interfaces.all_shown.Goals as goal

pub loop-place-preserved : goal.loop-place-preserved
loop-place-preserved c =
    let key : InterfaceRow → List ℕ = λ row. row.name in
    let rows : List InterfaceRow = c.args.interfaces.now in
    let has : HasPlaces c.args.levels.now.ports.index.interfaces (map key rows) =
    subst (λ (z : List InterfaceRow). HasPlaces c.args.levels.now.ports.index.interfaces (map key z)) (sym c.requires.interfaces) c.requires.levels.ports.index.interfaces in
    shown_more key (interface_shown c.args.inputs.now) rows c.args.levels.now.ports.index.interfaces c.loop-place.place c.index-interfaces-place.result (map view c.loop-place.items.items) (map view c.add_if_first.new.items.items) has
    c.loop-place-test.true c.index-interfaces-place.is c.loop-place.invariant c.in_ok-add_if_first.ensures
