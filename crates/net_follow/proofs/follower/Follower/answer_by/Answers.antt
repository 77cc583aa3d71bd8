use Rattle.std.proofs.Common.{arith, ◌≡◌, ◌≤◌, ◌<◌, [], ◌∷◌, length, vec_capacity, refl, ap, sym, subst, ◌∙◌}
use Rattle.net_rules.specs.declared.inputs.Inputs.{Inputs}
use Rattle.net_rules.specs.declared.event.Event.TheVariants as event
use Rattle.net_rules.specs.After.{changed}
use Rattle.net_rules.proofs.EventLemmas.{history_reached}
use Rattle.net_rules.proofs.TouchEventLemmas.{answer_after, answer_silent}
use Rattle.state_requests.specs.SettlingState.{held_of}
use Rattle.known_inputs.specs.Known.{Known}
use Rattle.net_reach.specs.Reach.{IsReachOf}
use Rattle.state_requests.specs.States.{States}
use Rattle.net_follow.specs.declared.follower.Follower.{Follower}
use Rattle.net_follow.specs.InStep.{inputs_of}
use Rattle.net_follow.proofs.CalmLemmas.{calm_of_ready, calm_counts, held_counts}
use Rattle.net_follow.proofs.OperatorStateLemmas.{place_within}
use Rattle.net_follow.proofs.KeptLemmas.{room_kept}
use Rattle.net_follow.proofs.AnsweredLemmas.{IsDown, one_within, down_at, l3_device_room, tells, all_down}
use Rattle.net_follow.proofs.StepLemmas.{moment_of, HasCome, step_now, followed_now}
use Rattle.net_follow.proofs.follower.Follower.answer_by.Goals as goal

pub let_down-requires-clause-place : goal.let_down-requires-clause-place
let_down-requires-clause-place g c = place_within (inputs_of c.args.self.now).conf c.args.interface.now c.args.place c.requires.place

pub set_l3_device-requires : goal.set_l3_device-requires
set_l3_device-requires g c = record {
  room = l3_device_room c.args.self.now c.args.place c.args.interface.now c.args.number c.args.answer c.requires.step c.requires.place c.requires.free c.requires.room c.let_down.new.self.reach
      (ap (λ (s : States). s.reach) c.let_down.ensures.kept);
}

pub touch_one-requires : goal.touch_one-requires
touch_one-requires g c =
    let within : c.args.place < length (inputs_of c.args.self.now).conf.interfaces = place_within (inputs_of c.args.self.now).conf c.args.interface.now c.args.place c.requires.place in
    let room : length (inputs_of c.args.self.now).conf.interfaces ≤ vec_capacity c.args.self.now.touched = c.requires.step.room.touched in
    omega (arith, within, room)

pub refresh-requires-clause-places : goal.refresh-requires-clause-places
refresh-requires-clause-places g c =
    let within : c.args.place < length (inputs_of c.args.self.now).conf.interfaces = place_within (inputs_of c.args.self.now).conf c.args.interface.now c.args.place c.requires.place in
    one_within c.deref.result.now c.args.place (length c.answer.new.self.inputs.conf.interfaces) (c.deref.ensures.value ∙ c.touch_one.ensures.touched)
    (subst (λ (k : Known). c.args.place < length k.inputs.conf.interfaces) (sym c.answer.ensures) within)

pub refresh-requires-clause-tied : goal.refresh-requires-clause-tied
refresh-requires-clause-tied g c =
    let old : Follower = c.args.self.now in
    let what = event.Answer c.args.interface.now c.args.number c.args.answer in
    let then : Inputs = changed (inputs_of old) what in
    let is : c.answer.new.self.inputs ≡ then = ap (λ (k : Known). k.inputs) c.answer.ensures in
    let d = c.let_down.ensures in
    let telling = tells old c.args.place c.args.interface.now c.args.number c.args.answer c.requires.step c.requires.place c.requires.free c.requires.room c.conf-rows.ensures.once c.let_down.new.self c.let_down.new.settling d.tied d.counted
    d.list d.stays c.l3_device_told-was.result c.l3_device_told-was.ensures in
    let reaches : IsReachOf then c.set_l3_device.new.self = c.set_l3_device.ensures.told (inputs_of old) then c.args.interface.now d.tied.reach c.requires.place telling in
    let states : States = record c.let_down.new.self { reach = c.set_l3_device.new.self } in
    let down : IsDown c.answer.new.self.inputs c.deref.result.now states c.let_down.new.settling = down_at c.answer.new.self.inputs
    then c.deref.result.now (c.args.place ∷ []) states c.let_down.new.settling is (c.deref.ensures.value ∙ c.touch_one.ensures.touched)
    (all_down old c.args.place c.args.interface.now c.args.number c.args.answer c.requires.step c.requires.place c.requires.free c.requires.room c.conf-rows.ensures.once c.let_down.new.self c.let_down.new.settling d.tied d.counted d.list
    d.stays c.set_l3_device.new.self reaches) in
    down.tied

pub refresh-requires-clause-counted : goal.refresh-requires-clause-counted
refresh-requires-clause-counted g c =
    let old : Follower = c.args.self.now in
    let what = event.Answer c.args.interface.now c.args.number c.args.answer in
    let then : Inputs = changed (inputs_of old) what in
    let is : c.answer.new.self.inputs ≡ then = ap (λ (k : Known). k.inputs) c.answer.ensures in
    let d = c.let_down.ensures in
    let telling = tells old c.args.place c.args.interface.now c.args.number c.args.answer c.requires.step c.requires.place c.requires.free c.requires.room c.conf-rows.ensures.once c.let_down.new.self c.let_down.new.settling d.tied d.counted
    d.list d.stays c.l3_device_told-was.result c.l3_device_told-was.ensures in
    let reaches : IsReachOf then c.set_l3_device.new.self = c.set_l3_device.ensures.told (inputs_of old) then c.args.interface.now d.tied.reach c.requires.place telling in
    let states : States = record c.let_down.new.self { reach = c.set_l3_device.new.self } in
    let down : IsDown c.answer.new.self.inputs c.deref.result.now states c.let_down.new.settling = down_at c.answer.new.self.inputs
    then c.deref.result.now (c.args.place ∷ []) states c.let_down.new.settling is (c.deref.ensures.value ∙ c.touch_one.ensures.touched)
    (all_down old c.args.place c.args.interface.now c.args.number c.args.answer c.requires.step c.requires.place c.requires.free c.requires.room c.conf-rows.ensures.once c.let_down.new.self c.let_down.new.settling d.tied d.counted d.list
    d.stays c.set_l3_device.new.self reaches) in
    down.counted

pub refresh-requires-clause-follow : goal.refresh-requires-clause-follow
refresh-requires-clause-follow g c =
    let old : Follower = c.args.self.now in
    let what = event.Answer c.args.interface.now c.args.number c.args.answer in
    let then : Inputs = changed (inputs_of old) what in
    let is : c.answer.new.self.inputs ≡ then = ap (λ (k : Known). k.inputs) c.answer.ensures in
    let d = c.let_down.ensures in
    let telling = tells old c.args.place c.args.interface.now c.args.number c.args.answer c.requires.step c.requires.place c.requires.free c.requires.room c.conf-rows.ensures.once c.let_down.new.self c.let_down.new.settling d.tied d.counted
    d.list d.stays c.l3_device_told-was.result c.l3_device_told-was.ensures in
    let reaches : IsReachOf then c.set_l3_device.new.self = c.set_l3_device.ensures.told (inputs_of old) then c.args.interface.now d.tied.reach c.requires.place telling in
    let states : States = record c.let_down.new.self { reach = c.set_l3_device.new.self } in
    let down : IsDown c.answer.new.self.inputs c.deref.result.now states c.let_down.new.settling = down_at c.answer.new.self.inputs
    then c.deref.result.now (c.args.place ∷ []) states c.let_down.new.settling is (c.deref.ensures.value ∙ c.touch_one.ensures.touched)
    (all_down old c.args.place c.args.interface.now c.args.number c.args.answer c.requires.step c.requires.place c.requires.free c.requires.room c.conf-rows.ensures.once c.let_down.new.self c.let_down.new.settling d.tied d.counted d.list
    d.stays c.set_l3_device.new.self reaches) in
    down.follow

pub look-requires : goal.look-requires
look-requires g c =
    calm_counts c.let_down.new.settling c.refresh.new.settling c.refresh.ensures.stays
    (calm_counts c.args.self.now.settling c.let_down.new.settling c.let_down.ensures.stays (calm_of_ready c.args.self.now.settling c.requires.step.ready))

pub returns-clause-step : goal.returns-clause-step
returns-clause-step g c =
    let old : Follower = c.args.self.now in
    let what = event.Answer c.args.interface.now c.args.number c.args.answer in
    let then : Inputs = changed (inputs_of old) what in
    let last : Follower = record old { inputs = c.answer.new.self; settling = c.look.new.settling; states = c.refresh.new.self; touched = c.touch_one.new.touched } in
    let reached = history_reached (moment_of (inputs_of old) (held_of old.settling)) c.requires.step.history in
    let come : HasCome what old last = record {
      inputs = ap (λ (k : Known). k.inputs) c.answer.ensures ∙ sym (answer_after (inputs_of old) c.args.interface.now c.args.number c.args.answer reached);
      told = c.requires.told ∙ sym (answer_silent (inputs_of old) c.args.interface.now c.args.number c.args.answer reached);
      held = c.look.ensures.held ∙ held_counts c.let_down.new.settling c.refresh.new.settling c.refresh.ensures.stays ∙ held_counts old.settling c.let_down.new.settling c.let_down.ensures.stays;
      loads = c.look.ensures.loads ∙ c.refresh.ensures.stays.graph.loads ∙ c.let_down.ensures.stays.graph.loads;
      states = c.refresh.ensures.states;
      counted = c.look.ensures.counted c.answer.new.self.inputs c.refresh.new.self.list.items c.refresh.ensures.counted;
      ready = λ history. c.look.ensures.ready c.answer.new.self.inputs c.refresh.new.self history c.refresh.ensures.states (c.look.ensures.counted c.answer.new.self.inputs c.refresh.new.self.list.items c.refresh.ensures.counted);
      room = room_kept old last (ap (λ (k : Known). k.inputs.conf) c.answer.ensures) c.touch_one.ensures.capacity refl c.requires.step.room;
    } in
    step_now what old last come c.requires.step.history tt

pub returns-clause-followed : goal.returns-clause-followed
returns-clause-followed g c =
    let old : Follower = c.args.self.now in
    let what = event.Answer c.args.interface.now c.args.number c.args.answer in
    let then : Inputs = changed (inputs_of old) what in
    let last : Follower = record old { inputs = c.answer.new.self; settling = c.look.new.settling; states = c.refresh.new.self; touched = c.touch_one.new.touched } in
    let reached = history_reached (moment_of (inputs_of old) (held_of old.settling)) c.requires.step.history in
    let come : HasCome what old last = record {
      inputs = ap (λ (k : Known). k.inputs) c.answer.ensures ∙ sym (answer_after (inputs_of old) c.args.interface.now c.args.number c.args.answer reached);
      told = c.requires.told ∙ sym (answer_silent (inputs_of old) c.args.interface.now c.args.number c.args.answer reached);
      held = c.look.ensures.held ∙ held_counts c.let_down.new.settling c.refresh.new.settling c.refresh.ensures.stays ∙ held_counts old.settling c.let_down.new.settling c.let_down.ensures.stays;
      loads = c.look.ensures.loads ∙ c.refresh.ensures.stays.graph.loads ∙ c.let_down.ensures.stays.graph.loads;
      states = c.refresh.ensures.states;
      counted = c.look.ensures.counted c.answer.new.self.inputs c.refresh.new.self.list.items c.refresh.ensures.counted;
      ready = λ history. c.look.ensures.ready c.answer.new.self.inputs c.refresh.new.self history c.refresh.ensures.states (c.look.ensures.counted c.answer.new.self.inputs c.refresh.new.self.list.items c.refresh.ensures.counted);
      room = room_kept old last (ap (λ (k : Known). k.inputs.conf) c.answer.ensures) c.touch_one.ensures.capacity refl c.requires.step.room;
    } in
    followed_now what old last come
