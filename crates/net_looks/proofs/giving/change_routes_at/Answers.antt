use Rattle.std.proofs.Common.{ℕ, List, map, filter_map, slice_get, refl}
use Rattle.net_wants.specs.Given.{route_on}
use Rattle.net_looks.proofs.GivingLemmas.{all_left, place_can, place_done, all_done}
use Rattle.net_looks.proofs.giving.change_routes_at.Goals as goal

pub loop-place-init : goal.loop-place-init
loop-place-init c = all_left c.args.change c.args.gifts.now (map (route_on c.args.dev.now) (filter_map (slice_get c.args.routes.now) c.args.places.now)) c.requires

pub change_route_at-requires : goal.change_route_at-requires
change_route_at-requires c = place_can (route_on c.args.dev.now) (slice_get c.args.routes.now) c.args.change c.args.gifts.now c.loop-place.gifts (map (route_on c.args.dev.now) (filter_map (slice_get c.args.routes.now) c.args.places.now))
    c.args.places.now c.loop-place.place-index c.loop-place-test.true c.loop-place.invariant

pub loop-place-preserved : goal.loop-place-preserved
loop-place-preserved c = place_done (route_on c.args.dev.now) (slice_get c.args.routes.now) c.args.change c.args.gifts.now c.loop-place.gifts c.change_route_at.new.gifts
    (map (route_on c.args.dev.now) (filter_map (slice_get c.args.routes.now) c.args.places.now)) c.args.places.now c.loop-place.place-index c.loop-place-test.true c.loop-place.invariant c.change_route_at.ensures

pub returns : goal.returns
returns c = all_done (λ (z : List ℕ). map (route_on c.args.dev.now) (filter_map (slice_get c.args.routes.now) z)) c.args.change c.args.gifts.now c.loop-place.gifts
    (map (route_on c.args.dev.now) (filter_map (slice_get c.args.routes.now) c.args.places.now)) c.args.places.now c.loop-place.place-index refl c.loop-place-test.false c.loop-place.invariant
