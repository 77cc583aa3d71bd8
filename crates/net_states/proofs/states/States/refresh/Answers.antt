use Rattle.std.proofs.Common.{◌≡◌, ℕ, get_or, slice_get, Some}
use Rattle.net_states.proofs.PlaceLemmas.{at_index, member_at}
use Rattle.net_states.proofs.CountLemmas.{counts_twice}
use Rattle.net_states.proofs.BecomeLemmas.{kept_twice}
use Rattle.net_states.proofs.FollowLemmas.{follow_next}
use Rattle.net_states.proofs.states.States.refresh.Goals as goal

pub refresh_one-requires-clause-place : goal.refresh_one-requires-clause-place
refresh_one-requires-clause-place g c =
    let places = c.args.places.now in
    let n = c.loop-place.place-index in
    c.requires.places (get_or places n 0) (member_at places n (get_or places n 0) (at_index places n c.loop-place-test.true))

pub loop-place-preserved : goal.loop-place-preserved
loop-place-preserved g c =
    let places = c.args.places.now in
    let n = c.loop-place.place-index in
    let place : ℕ = get_or places n 0 in
    let there : slice_get places n ≡ Some place = at_index places n c.loop-place-test.true in
    record {
      tied = c.refresh_one.ensures.tied;
      counted = c.refresh_one.ensures.counted;
      follow = follow_next c.args.inputs.now.inputs places n place c.loop-place.self.list.items c.refresh_one.new.self.list.items there c.loop-place.invariant.follow c.refresh_one.ensures.follows;
      kept = kept_twice c.args.self.now c.loop-place.self c.refresh_one.new.self c.loop-place.invariant.kept c.refresh_one.ensures.kept;
      stays = counts_twice c.args.settling.now c.loop-place.settling c.refresh_one.new.settling c.loop-place.invariant.stays c.refresh_one.ensures.stays;
    }
