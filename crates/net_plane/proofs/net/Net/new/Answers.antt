use Rattle.std.proofs.Common.{ap}
use Rattle.net_rebuild.specs.SettlingState.{SettlingState}
use Rattle.net_rebuild.specs.Follower.{Follower}
use Rattle.net_plane.proofs.NewLemmas.{new_in_step, new_seen}
use Rattle.net_plane.proofs.net.Net.new.Goals as goal

pub invariant_of-result : goal.invariant_of-result
invariant_of-result c =
    let f : Follower = record { inputs = c.new.result; settling = c.new-2.result; states = c.new-3.result; touched = c.new-4.result; notices = c.new-5.result } in
    new_in_step f c.new.ensures c.new-2.ensures.bare c.new-3.ensures c.new-2.ensures.ready

pub returns-clause-new : goal.returns-clause-new
returns-clause-new c =
    let f : Follower = record { inputs = c.new.result; settling = c.new-2.result; states = c.new-3.result; touched = c.new-4.result; notices = c.new-5.result } in
    new_seen f c.new.ensures c.new-2.ensures.bare c.new-3.ensures c.new-5.ensures.items

pub returns-clause-loads : goal.returns-clause-loads
returns-clause-loads c = ap (λ (settling_state : SettlingState). settling_state.graph.loads) c.new-2.ensures.bare
