use Rattle.std.proofs.Common.{map, refl, ap, ◌∙◌}
use Rattle.kern_calls.specs.Upper.{is_upper}
use Rattle.net_wants.specs.Given.{answer_route}
use Rattle.gift_places.proofs.MoreLemmas.{all_left, item_done, all_done, both_more}
use Rattle.gift_places.proofs.expecting.expect_answer_routes.Goals as goal

pub loop-route-init : goal.loop-route-init
loop-route-init c = all_left c.args.gifts.now (map (answer_route c.args.dev.now) c.args.routes.now)

pub expect_one-requires : goal.expect_one-requires
expect_one-requires c = ap is_upper c.route_of_answer.ensures

pub loop-route-preserved : goal.loop-route-preserved
loop-route-preserved c = item_done (answer_route c.args.dev.now) c.args.gifts.now c.loop-route.gifts c.expect_one.new.gifts (map (answer_route c.args.dev.now) c.args.routes.now) c.args.routes.now c.loop-route.route-index c.route-item.result
    (c.route_of_answer.result) c.loop-route-test.true (c.route_of_answer.ensures ∙ ap (answer_route c.args.dev.now) c.route-item.is) c.loop-route.invariant c.in_ok-expect_one.ensures.ok c.expect_one.ensures.more

pub returns-in_err-expect_one-clause-more : goal.returns-in_err-expect_one-clause-more
returns-in_err-expect_one-clause-more c = both_more c.args.gifts.now c.loop-route.gifts c.expect_one.new.gifts c.loop-route.invariant.more c.expect_one.ensures.more

pub returns-clause-ok : goal.returns-clause-ok
returns-clause-ok c = all_done (map (answer_route c.args.dev.now)) c.args.gifts.now c.loop-route.gifts (map (answer_route c.args.dev.now) c.args.routes.now) c.args.routes.now c.loop-route.route-index refl c.loop-route-test.false
    c.loop-route.invariant

pub returns-clause-more : goal.returns-clause-more
returns-clause-more c = c.loop-route.invariant.more
