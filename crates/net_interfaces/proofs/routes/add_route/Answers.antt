use Rattle.std.proofs.Common.{List, ◌++◌, ◌∙◌, ap}
use Rattle.net_rows.specs.declared.rows.RouteRow.{RouteRow}
use Rattle.net_rows.proofs.WordLemmas.{on_ok_then}
use Rattle.net_interfaces.proofs.RouteLemmas.{row_is}
use Rattle.net_interfaces.proofs.routes.add_route.Goals as goal

pub returns : goal.returns
returns c = λ names has.
    let row = row_is names c.args.section.now c.place_given-interface.result c.as_slice-options.result.now c.in-Some.family c.in_ok-route_row.field-0 c.in_ok-route_row.ensures (c.place_given-interface.ensures names has)
    c.as_slice-options.ensures c.in-Some.ensures in
    on_ok_then c.push.result (λ pushed. pushed ∙ ap (λ (z : List RouteRow). c.args.rows.now ++ z) row) c.push.ensures.ok
