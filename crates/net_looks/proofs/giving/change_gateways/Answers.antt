use Rattle.std.proofs.Common.{map, refl}
use Rattle.net_rules.specs.Want.{default_route}
use Rattle.net_looks.proofs.GivingLemmas.{all_left, item_can, item_done, all_done}
use Rattle.net_looks.proofs.giving.change_gateways.Goals as goal

pub loop-gateway-init : goal.loop-gateway-init
loop-gateway-init c = all_left c.args.change c.args.gifts.now (map (default_route c.args.dev.now c.args.metric) c.args.gateways.now) c.requires

pub change_one-requires : goal.change_one-requires
change_one-requires c = item_can (default_route c.args.dev.now c.args.metric) c.args.change c.args.gifts.now c.loop-gateway.gifts (map (default_route c.args.dev.now c.args.metric) c.args.gateways.now) c.args.gateways.now
    c.loop-gateway.gateway-index _ c.default_route.result c.loop-gateway-test.true c.default_route.ensures c.loop-gateway.invariant

pub loop-gateway-preserved : goal.loop-gateway-preserved
loop-gateway-preserved c = item_done (default_route c.args.dev.now c.args.metric) c.args.change c.args.gifts.now c.loop-gateway.gifts c.change_one.new.gifts (map (default_route c.args.dev.now c.args.metric) c.args.gateways.now)
    c.args.gateways.now c.loop-gateway.gateway-index _ c.default_route.result c.loop-gateway-test.true c.default_route.ensures c.loop-gateway.invariant c.change_one.ensures

pub returns : goal.returns
returns c = all_done (map (default_route c.args.dev.now c.args.metric)) c.args.change c.args.gifts.now c.loop-gateway.gifts (map (default_route c.args.dev.now c.args.metric) c.args.gateways.now) c.args.gateways.now
    c.loop-gateway.gateway-index refl c.loop-gateway-test.false c.loop-gateway.invariant
