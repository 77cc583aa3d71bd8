use Rattle.std.proofs.Common.{map, refl, ap}
use Rattle.kern_calls.specs.Upper.{is_upper}
use Rattle.net_rules.specs.Want.{default_route}
use Rattle.gift_places.proofs.MoreLemmas.{all_left, item_done, all_done, both_more}
use Rattle.gift_places.proofs.expecting.expect_gateways.Goals as goal

pub loop-gateway-init : goal.loop-gateway-init
loop-gateway-init c = all_left c.args.gifts.now (map (default_route c.args.dev.now c.args.metric) c.args.gateways.now)

pub expect_one-requires : goal.expect_one-requires
expect_one-requires c = ap is_upper c.default_route.ensures

pub loop-gateway-preserved : goal.loop-gateway-preserved
loop-gateway-preserved c = item_done (default_route c.args.dev.now c.args.metric) c.args.gifts.now c.loop-gateway.gifts c.expect_one.new.gifts (map (default_route c.args.dev.now c.args.metric) c.args.gateways.now) c.args.gateways.now
    c.loop-gateway.gateway-index _ c.default_route.result c.loop-gateway-test.true c.default_route.ensures c.loop-gateway.invariant c.in_ok-expect_one.ensures.ok c.expect_one.ensures.more

pub returns-in_err-expect_one-clause-more : goal.returns-in_err-expect_one-clause-more
returns-in_err-expect_one-clause-more c = both_more c.args.gifts.now c.loop-gateway.gifts c.expect_one.new.gifts c.loop-gateway.invariant.more c.expect_one.ensures.more

pub returns-clause-ok : goal.returns-clause-ok
returns-clause-ok c = all_done (map (default_route c.args.dev.now c.args.metric)) c.args.gifts.now c.loop-gateway.gifts (map (default_route c.args.dev.now c.args.metric) c.args.gateways.now) c.args.gateways.now c.loop-gateway.gateway-index
    refl c.loop-gateway-test.false c.loop-gateway.invariant

pub returns-clause-more : goal.returns-clause-more
returns-clause-more c = c.loop-gateway.invariant.more
