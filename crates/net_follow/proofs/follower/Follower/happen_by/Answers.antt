use Rattle.std.proofs.Common.{ℕ, List, refl, ap, subst}
use Rattle.kern_model.specs.declared.object.DevEvent.{DevEvent}
use Rattle.net_rules.specs.declared.inputs.Inputs.{Inputs}
use Rattle.net_rules.specs.declared.event.Event.TheVariants as event
use Rattle.net_rules.specs.After.{changed}
use Rattle.net_rules.proofs.RefusalLemmas.{device_may}
use Rattle.net_rules.proofs.EventLemmas.{history_reached}
use Rattle.state_requests.specs.SettlingState.{held_of}
use Rattle.known_inputs.specs.Known.{Known}
use Rattle.net_reach.specs.Reach.{IsReachOf, AreTouched}
use Rattle.touch_laws.proofs.DeviceLemmas.{follows}
use Rattle.net_follow.specs.declared.follower.Follower.{Follower}
use Rattle.net_follow.specs.InStep.{inputs_of}
use Rattle.net_follow.proofs.DeviceLemmas.{touched_before, device_moves}
use Rattle.net_follow.proofs.KeptLemmas.{moving, room_kept}
use Rattle.net_follow.proofs.StepLemmas.{moment_of, HasCome, come_by, step_now, followed_now}
use Rattle.net_follow.proofs.follower.Follower.happen_by.Goals as goal

pub happen-requires-clause-place : goal.happen-requires-clause-place
happen-requires-clause-place g c = c.place_before-place.ensures (inputs_of c.args.self.now) (held_of c.args.self.now.settling) c.requires.free c.requires.awaiting.placed

pub happen-requires-clause-room : goal.happen-requires-clause-room
happen-requires-clause-room g c = c.requires.awaiting.room

pub tell_graph-requires-clause-known : goal.tell_graph-requires-clause-known
tell_graph-requires-clause-known g c = c.requires.awaiting.known

pub tell_graph-requires-clause-ready : goal.tell_graph-requires-clause-ready
tell_graph-requires-clause-ready g c = c.requires.awaiting.step.ready

pub touch-requires : goal.touch-requires
touch-requires g c =
    let old : Follower = c.args.self.now in
    let now : Inputs = changed (inputs_of old) (event.Device c.args.event.now) in
    let there : IsReachOf now c.forget_place.new.reach = c.forget_place.ensures (inputs_of old) (held_of old.settling) c.conf-rows.ensures.once c.requires.free c.requires.awaiting.placed in
    record { room = (now, there, c.requires.awaiting.step.room.touched) }

pub follow-requires : goal.follow-requires
follow-requires g c =
    let old : Follower = c.args.self.now in
    let a = c.requires.awaiting in
    let what : DevEvent = c.args.event.now in
    let now : Inputs = changed (inputs_of old) (event.Device what) in
    let there : IsReachOf now c.forget_place.new.reach = c.forget_place.ensures (inputs_of old) (held_of old.settling) c.conf-rows.ensures.once c.requires.free a.placed in
    let places : List ℕ = c.touch.new.touched.items in
    let are = touched_before (inputs_of old) what places (subst (λ (name : List ℕ). AreTouched now name places) c.name_of.ensures (c.touch.ensures.touched now there)) in
    let awaited : Follower = record old { states = record old.states { reach = a.before } } in
    let middle : Follower = record old { inputs = c.happen.new.self; settling = c.tell_graph.new.settling; states = record old.states { reach = c.touch.new.reach }; touched = c.touch.new.touched } in
    moving middle now places (ap (λ (k : Known). k.inputs) c.happen.ensures) refl
    (device_moves (inputs_of old) what places are awaited.states c.touch.new.reach c.tell_graph.new.settling a.step.states (c.touch.ensures.reach now there) (c.tell_graph.ensures.counted (inputs_of old) old.states.list.items a.step.counted)
    c.tell_graph.ensures.calm c.requires.next)
    c.requires.told
    (room_kept awaited middle (ap (λ (k : Known). k.inputs.conf) c.happen.ensures) c.touch.ensures.capacity refl a.step.room)

pub returns-clause-step : goal.returns-clause-step
returns-clause-step g c =
    let old : Follower = c.args.self.now in
    let a = c.requires.awaiting in
    let what : DevEvent = c.args.event.now in
    let now : Inputs = changed (inputs_of old) (event.Device what) in
    let there : IsReachOf now c.forget_place.new.reach = c.forget_place.ensures (inputs_of old) (held_of old.settling) c.conf-rows.ensures.once c.requires.free a.placed in
    let places : List ℕ = c.touch.new.touched.items in
    let are = touched_before (inputs_of old) what places (subst (λ (name : List ℕ). AreTouched now name places) c.name_of.ensures (c.touch.ensures.touched now there)) in
    let middle : Follower = record old { inputs = c.happen.new.self; settling = c.tell_graph.new.settling; states = record old.states { reach = c.touch.new.reach }; touched = c.touch.new.touched } in
    let f = c.follow.ensures in
    let come : HasCome (event.Device what) old c.follow.new.self = come_by (event.Device what) old middle c.follow.new.self places (ap (λ (k : Known). k.inputs) c.happen.ensures) refl
    (follows (inputs_of old) what places are (history_reached (moment_of (inputs_of old) (held_of old.settling)) a.step.history))
    f.inputs f.told f.states f.counted f.held f.loads f.ready f.room (c.tell_graph.ensures.held (inputs_of old) a.step.counted.agrees.below c.requires.free) c.tell_graph.ensures.loads in
    step_now (event.Device what) old c.follow.new.self come a.step.history (device_may (moment_of (inputs_of old) (held_of old.settling)) what c.requires.free)

pub returns-clause-followed : goal.returns-clause-followed
returns-clause-followed g c =
    let old : Follower = c.args.self.now in
    let a = c.requires.awaiting in
    let what : DevEvent = c.args.event.now in
    let now : Inputs = changed (inputs_of old) (event.Device what) in
    let there : IsReachOf now c.forget_place.new.reach = c.forget_place.ensures (inputs_of old) (held_of old.settling) c.conf-rows.ensures.once c.requires.free a.placed in
    let places : List ℕ = c.touch.new.touched.items in
    let are = touched_before (inputs_of old) what places (subst (λ (name : List ℕ). AreTouched now name places) c.name_of.ensures (c.touch.ensures.touched now there)) in
    let middle : Follower = record old { inputs = c.happen.new.self; settling = c.tell_graph.new.settling; states = record old.states { reach = c.touch.new.reach }; touched = c.touch.new.touched } in
    let f = c.follow.ensures in
    let come : HasCome (event.Device what) old c.follow.new.self = come_by (event.Device what) old middle c.follow.new.self places (ap (λ (k : Known). k.inputs) c.happen.ensures) refl
    (follows (inputs_of old) what places are (history_reached (moment_of (inputs_of old) (held_of old.settling)) a.step.history))
    f.inputs f.told f.states f.counted f.held f.loads f.ready f.room (c.tell_graph.ensures.held (inputs_of old) a.step.counted.agrees.below c.requires.free) c.tell_graph.ensures.loads in
    followed_now (event.Device what) old c.follow.new.self come
