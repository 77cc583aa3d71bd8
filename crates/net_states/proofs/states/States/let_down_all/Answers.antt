use Rattle.std.proofs.Common.{arith, ◌≡◌, ◌<◌, ◌+◌, ℕ, List, length, get_or, take, slice_get, slice_set, Some, sym, subst}
use Rattle.net_rules.specs.declared.state.InterfaceState.{InterfaceState}
use Rattle.net_states.specs.Kept.{FollowBut, AreIdleAt}
use Rattle.net_states.specs.Becoming.{idle}
use Rattle.net_states.proofs.PlaceLemmas.{at_within, at_index, member_at, has_member}
use Rattle.net_states.proofs.CountLemmas.{counts_twice}
use Rattle.net_states.proofs.BecomeLemmas.{kept_twice}
use Rattle.net_states.proofs.FollowLemmas.{idle_more, follow_apart}
use Rattle.net_states.proofs.states.States.let_down_all.Goals as goal

pub let_down-requires-clause-place : goal.let_down-requires-clause-place
let_down-requires-clause-place g c =
    let places = c.args.places.now in
    let n = c.loop-place.place-index in
    c.requires.places (get_or places n 0) (member_at places n (get_or places n 0) (at_index places n c.loop-place-test.true))

pub loop-place-preserved : goal.loop-place-preserved
loop-place-preserved g c =
    let inputs = c.args.inputs.now.inputs in
    let places = c.args.places.now in
    let n = c.loop-place.place-index in
    let place : ℕ = get_or places n 0 in
    let there : slice_get places n ≡ Some place = at_index places n c.loop-place-test.true in
    let member = member_at places n place there in
    let list = c.loop-place.self.list.items in
    let bound : place < length inputs.conf.interfaces = c.requires.places place member in
    let within : place < length list = omega (arith, bound, c.loop-place.invariant.tied.noted.size) in
    let found = at_within list place within in
    let set : c.let_down.new.self.list.items ≡ slice_set list place (idle found.0) = c.let_down.ensures.list found.0 found.1 in
    record {
      tied = c.let_down.ensures.tied;
      counted = c.let_down.ensures.counted;
      idle = subst (λ (ss : List InterfaceState). AreIdleAt (take (n + 1) places) ss) (sym set) (idle_more places n place list found.0 there c.loop-place.invariant.idle);
      follow = λ start. subst (λ (ss : List InterfaceState). FollowBut inputs places ss) (sym set) (follow_apart inputs places place list (idle found.0) (has_member places place member) (c.loop-place.invariant.follow start));
      kept = kept_twice c.args.self.now c.loop-place.self c.let_down.new.self c.loop-place.invariant.kept c.let_down.ensures.kept;
      stays = counts_twice c.args.settling.now c.loop-place.settling c.let_down.new.settling c.loop-place.invariant.stays c.let_down.ensures.stays;
    }
