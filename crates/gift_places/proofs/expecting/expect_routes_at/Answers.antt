use Rattle.std.proofs.Common.{ℕ, List, map, filter_map, slice_get, refl}
use Rattle.net_wants.specs.Given.{route_on}
use Rattle.gift_places.proofs.MoreLemmas.{all_left, place_done, all_done, both_more}
use Rattle.gift_places.proofs.expecting.expect_routes_at.Goals as goal

pub loop-place-init : goal.loop-place-init
loop-place-init c = all_left c.args.gifts.now (map (route_on c.args.dev.now) (filter_map (slice_get c.args.routes.now) c.args.places.now))

pub loop-place-preserved : goal.loop-place-preserved
loop-place-preserved c = place_done (route_on c.args.dev.now) (slice_get c.args.routes.now) c.args.gifts.now c.loop-place.gifts c.expect_route_at.new.gifts
    (map (route_on c.args.dev.now) (filter_map (slice_get c.args.routes.now) c.args.places.now)) c.args.places.now c.loop-place.place-index c.loop-place-test.true c.loop-place.invariant c.in_ok-expect_route_at.ensures.ok
    c.expect_route_at.ensures.more

pub returns-in_err-expect_route_at-clause-more : goal.returns-in_err-expect_route_at-clause-more
returns-in_err-expect_route_at-clause-more c = both_more c.args.gifts.now c.loop-place.gifts c.expect_route_at.new.gifts c.loop-place.invariant.more c.expect_route_at.ensures.more

pub returns-clause-ok : goal.returns-clause-ok
returns-clause-ok c = all_done (λ (z : List ℕ). map (route_on c.args.dev.now) (filter_map (slice_get c.args.routes.now) z)) c.args.gifts.now c.loop-place.gifts
    (map (route_on c.args.dev.now) (filter_map (slice_get c.args.routes.now) c.args.places.now)) c.args.places.now c.loop-place.place-index refl c.loop-place-test.false c.loop-place.invariant

pub returns-clause-more : goal.returns-clause-more
returns-clause-more c = c.loop-place.invariant.more
