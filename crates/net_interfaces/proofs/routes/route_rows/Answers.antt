use Rattle.std.proofs.Common.{◌∙◌}
use Rattle.net_interfaces.specs.Routes.{names_of, route_in}
use Rattle.net_interfaces.proofs.ListLemmas.{made_so_far}
use Rattle.net_interfaces.proofs.routes.route_rows.Goals as goal

pub loop-section-preserved : goal.loop-section-preserved
loop-section-preserved c =
    made_so_far (route_in (names_of c.args.interfaces.now)) c.loop-section.rows c.add_route.new.rows c.args.sections.now c.loop-section.section-index c.section-item.result c.loop-section-test.true c.section-item.is
    (c.in_ok-add_route.ensures (names_of c.args.interfaces.now) c.in_ok-places.ensures) ∙ c.loop-section.invariant
