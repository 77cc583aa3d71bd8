use Rattle.state_requests.specs.SettlingState.{held_of}
use Rattle.net_follow.specs.declared.follower.Follower.{Follower}
use Rattle.net_follow.specs.InStep.{inputs_of}
use Rattle.net_follow.proofs.RoomLemmas.{step_reached}
use Rattle.net_follow.proofs.follower.Follower.desist.Goals as goal

pub returns-clause-step : goal.returns-clause-step
returns-clause-step c =
    let old : Follower = c.args.self.now in
    let a = c.requires.awaiting in
    let awaited : Follower = record old { states = record old.states { reach = a.before } } in
    step_reached awaited c.forget_room.new.reach (c.forget_room.ensures (inputs_of old) (held_of old.settling) c.conf-rows.ensures.once c.requires.free a.placed) a.step
