use Rattle.std.proofs.Common.{◌≡◌, List, map, filter, fold, filter_map, slice_get, ap, sym, subst, ◌∙◌}
use Rattle.net_rows.specs.declared.rows.Conf.{Conf}
use Rattle.net_rows.specs.declared.rows.RouteRow.{RouteRow}
use Rattle.net_wants.specs.Given.{route_on}
use Rattle.net_wants.specs.Grouped.{is_route_named}
use Rattle.net_wants.proofs.GroupLemmas.{items_are}
use Rattle.net_looks.specs.Giving.{changed_once, Can}
use Rattle.net_looks.proofs.look.Look.change_sections.Goals as goal

pub change_routes_at-requires : goal.change_routes_at-requires
change_routes_at-requires c =
    let conf : Conf = c.args.self.now.inputs.now.inputs.conf in
    let rows : List RouteRow = filter (is_route_named conf c.args.row.now.name) conf.routes in
    let all : c.as_slice-routes.result.now ≡ conf.routes = c.as_slice-routes.ensures ∙ ap (λ (k : Conf). k.routes) c.conf.ensures.rows in
    let same : filter_map (slice_get c.as_slice-routes.result.now) c.routes_of-places.result.now ≡ rows =
    ap (λ (z : List RouteRow). filter_map (slice_get z) c.routes_of-places.result.now) all
    ∙ items_are conf.routes c.routes_of-places.result.now rows (c.routes_of-places.ensures c.args.self.now.inputs.now.inputs c.requires.reach) in
    subst (λ (z : List RouteRow). Can c.args.change c.args.gifts.now (map (route_on c.args.dev.now) z)) (sym same) c.requires.can

pub returns : goal.returns
returns c =
    let conf : Conf = c.args.self.now.inputs.now.inputs.conf in
    let rows : List RouteRow = filter (is_route_named conf c.args.row.now.name) conf.routes in
    let all : c.as_slice-routes.result.now ≡ conf.routes = c.as_slice-routes.ensures ∙ ap (λ (k : Conf). k.routes) c.conf.ensures.rows in
    let same : filter_map (slice_get c.as_slice-routes.result.now) c.routes_of-places.result.now ≡ rows =
    ap (λ (z : List RouteRow). filter_map (slice_get z) c.routes_of-places.result.now) all
    ∙ items_are conf.routes c.routes_of-places.result.now rows (c.routes_of-places.ensures c.args.self.now.inputs.now.inputs c.requires.reach) in
    c.change_routes_at.ensures ∙ ap (λ (z : List RouteRow). fold (changed_once c.args.change) c.args.gifts.now (map (route_on c.args.dev.now) z)) same
