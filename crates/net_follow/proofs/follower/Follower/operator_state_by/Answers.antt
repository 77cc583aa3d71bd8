use Rattle.std.proofs.Common.{arith, ◌≤◌, ◌<◌, [], ◌∷◌, length, vec_capacity, refl, ap}
use Rattle.net_rules.specs.declared.event.Event.TheVariants as event
use Rattle.net_rules.specs.After.{changed}
use Rattle.net_rules.proofs.EventLemmas.{history_reached}
use Rattle.state_requests.specs.SettlingState.{held_of}
use Rattle.known_inputs.specs.Known.{Known}
use Rattle.touch_laws.proofs.OperatorStateLemmas.{follows}
use Rattle.net_follow.specs.declared.follower.Follower.{Follower}
use Rattle.net_follow.specs.InStep.{inputs_of}
use Rattle.net_follow.proofs.OperatorStateLemmas.{place_within, name_known, operator_state_moves}
use Rattle.net_follow.proofs.KeptLemmas.{moving, room_kept}
use Rattle.net_follow.proofs.StepLemmas.{moment_of, HasCome, come_by, step_now, followed_now}
use Rattle.net_follow.proofs.follower.Follower.operator_state_by.Goals as goal

pub operator_state-requires : goal.operator_state-requires
operator_state-requires g c = name_known (inputs_of c.args.self.now).conf c.args.interface c.args.place c.requires.place

pub touch_one-requires : goal.touch_one-requires
touch_one-requires g c =
    let within : c.args.place < length (inputs_of c.args.self.now).conf.interfaces = place_within (inputs_of c.args.self.now).conf c.args.interface c.args.place c.requires.place in
    let room : length (inputs_of c.args.self.now).conf.interfaces ≤ vec_capacity c.args.self.now.touched = c.requires.step.room.touched in
    omega (arith, within, room)

pub follow-requires : goal.follow-requires
follow-requires g c =
    let old : Follower = c.args.self.now in
    let middle : Follower = record old { inputs = c.operator_state.new.self; touched = c.touch_one.new.touched } in
    moving middle (changed (inputs_of old) (event.Operator c.args.interface c.args.up)) (c.args.place ∷ []) (ap (λ (k : Known). k.inputs) c.operator_state.ensures) c.touch_one.ensures.touched
    (operator_state_moves (inputs_of old) c.args.interface c.args.up c.args.place c.requires.place old.states old.settling c.requires.step.states c.requires.step.counted c.requires.step.ready c.requires.next)
    c.requires.told
    (room_kept old middle (ap (λ (k : Known). k.inputs.conf) c.operator_state.ensures) c.touch_one.ensures.capacity refl c.requires.step.room)

pub returns-clause-step : goal.returns-clause-step
returns-clause-step g c =
    let old : Follower = c.args.self.now in
    let middle : Follower = record old { inputs = c.operator_state.new.self; touched = c.touch_one.new.touched } in
    let what = event.Operator c.args.interface c.args.up in
    let f = c.follow.ensures in
    let come : HasCome what old c.follow.new.self = come_by what old middle c.follow.new.self (c.args.place ∷ []) (ap (λ (k : Known). k.inputs) c.operator_state.ensures) c.touch_one.ensures.touched
    (follows (inputs_of old) c.args.interface c.args.up c.args.place c.requires.place (history_reached (moment_of (inputs_of old) (held_of old.settling)) c.requires.step.history))
    f.inputs f.told f.states f.counted f.held f.loads f.ready f.room refl refl in
    step_now what old c.follow.new.self come c.requires.step.history tt

pub returns-clause-followed : goal.returns-clause-followed
returns-clause-followed g c =
    let old : Follower = c.args.self.now in
    let middle : Follower = record old { inputs = c.operator_state.new.self; touched = c.touch_one.new.touched } in
    let what = event.Operator c.args.interface c.args.up in
    let f = c.follow.ensures in
    let come : HasCome what old c.follow.new.self = come_by what old middle c.follow.new.self (c.args.place ∷ []) (ap (λ (k : Known). k.inputs) c.operator_state.ensures) c.touch_one.ensures.touched
    (follows (inputs_of old) c.args.interface c.args.up c.args.place c.requires.place (history_reached (moment_of (inputs_of old) (held_of old.settling)) c.requires.step.history))
    f.inputs f.told f.states f.counted f.held f.loads f.ready f.room refl refl in
    followed_now what old c.follow.new.self come
