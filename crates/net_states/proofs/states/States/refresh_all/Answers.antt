use Rattle.std.proofs.Common.{arith, ◌≡◌, ◌≤◌, length}
use Rattle.net_states.proofs.FollowLemmas.{all_below}
use Rattle.net_states.proofs.states.States.refresh_all.Goals as goal

pub returns-clause-states : goal.returns-clause-states
returns-clause-states g c =
    let inputs = c.args.inputs.now.inputs in
    let size : length c.args.self.now.list.items ≡ length inputs.conf.interfaces = c.requires.tied.noted.size in
    let most : length inputs.conf.interfaces ≤ c.loop-place.place = omega (arith, size, c.len-place-end.ensures, c.loop-place-test.false) in
    all_below inputs c.loop-place.self c.loop-place.place most c.loop-place.invariant.tied c.loop-place.invariant.follow
