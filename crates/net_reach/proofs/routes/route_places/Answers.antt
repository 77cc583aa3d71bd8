use Rattle.std.proofs.Common.{List, Some, map, ap, ◌∙◌, rules}
use Rattle.std.specs.Prelude.{filter}
use Rattle.std.proofs.lemmas.List.{take_all}
use Rattle.net_rows.specs.declared.rows.RouteRow.{RouteRow}
use Rattle.net_wants.specs.Grouped.{is_route_named}
use Rattle.net_wants.proofs.GroupLemmas.{items_more}
use Rattle.net_reach.proofs.routes.route_places.Goals as goal

pub loop-place-init : goal.loop-place-init
loop-place-init c = λ q. search rules

pub loop-place-preserved : goal.loop-place-preserved
loop-place-preserved c = items_more (is_route_named c.args.inputs.now.conf) c.args.routes.now c.loop-place.groups c.add_route_place.new.groups c.loop-place.place c.index-routes-place.result c.loop-place-test.true c.index-routes-place.is
    c.loop-place.invariant c.in_ok-add_route_place.ensures

pub returns : goal.returns
returns c = λ q. c.loop-place.invariant q ∙ ap (λ (z : List RouteRow). map Some (filter (is_route_named c.args.inputs.now.conf q) z)) (take_all c.loop-place.place c.args.routes.now c.loop-place-test.false)
