use Rattle.std.proofs.Common.{map, refl, ap, ◌∙◌}
use Rattle.net_wants.specs.Given.{answer_route}
use Rattle.net_looks.proofs.GivingLemmas.{all_left, item_can, item_done, all_done}
use Rattle.net_looks.proofs.giving.change_answer_routes.Goals as goal

pub loop-route-init : goal.loop-route-init
loop-route-init c = all_left c.args.change c.args.gifts.now (map (answer_route c.args.dev.now) c.args.routes.now) c.requires

pub change_one-requires : goal.change_one-requires
change_one-requires c = item_can (answer_route c.args.dev.now) c.args.change c.args.gifts.now c.loop-route.gifts (map (answer_route c.args.dev.now) c.args.routes.now) c.args.routes.now c.loop-route.route-index c.route-item.result
    c.route_of_answer.result c.loop-route-test.true (c.route_of_answer.ensures ∙ ap (answer_route c.args.dev.now) c.route-item.is) c.loop-route.invariant

pub loop-route-preserved : goal.loop-route-preserved
loop-route-preserved c = item_done (answer_route c.args.dev.now) c.args.change c.args.gifts.now c.loop-route.gifts c.change_one.new.gifts (map (answer_route c.args.dev.now) c.args.routes.now) c.args.routes.now c.loop-route.route-index
    c.route-item.result c.route_of_answer.result c.loop-route-test.true (c.route_of_answer.ensures ∙ ap (answer_route c.args.dev.now) c.route-item.is) c.loop-route.invariant c.change_one.ensures

pub returns : goal.returns
returns c = all_done (map (answer_route c.args.dev.now)) c.args.change c.args.gifts.now c.loop-route.gifts (map (answer_route c.args.dev.now) c.args.routes.now) c.args.routes.now c.loop-route.route-index refl c.loop-route-test.false
    c.loop-route.invariant
