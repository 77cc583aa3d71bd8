-- What is made anew.
use Rattle.std.proofs.Common.{◌≡◌, ◌≤◌, ◌*◌, ◌^◌, map, length, None, refl, ap, sym, subst, ◌∙◌, vec_capacity}
use Rattle.std.specs.VecDeque.{deque_capacity}
use Rattle.kern_model.specs.declared.object.Object.{Object}
use Rattle.net_rules.specs.declared.inputs.Inputs.{Inputs}
use Rattle.net_rules.specs.declared.event.Event.{Event}
use Rattle.net_rules.specs.declared.event.Event.TheVariants as event
use Rattle.net_rules.specs.RadioPorts.{radio_ports}
use Rattle.net_rules.specs.Inputs.{facts_of}
use Rattle.net_rules.specs.After.{changed, after}
use Rattle.net_rules.specs.Notices.{notices_between}
use Rattle.net_rules.specs.Fresh.{IsReached}
use Rattle.net_rules.specs.Moment.{Moment, IsHistory}
use Rattle.net_rules.specs.Refusal.{refusal}
use Rattle.net_rules.proofs.MomentLemmas.{conf_after, conf_follows}
use Rattle.graph_rules.specs.Answers.{port_of}
use Rattle.given_objects.specs.Gifts as gift
use Rattle.given_objects.specs.Gifts.{givers_of}
use Rattle.load_parts.specs.Further.{further_names}
use Rattle.known_inputs.specs.Known.{StandOnce}
use Rattle.known_inputs.proofs.EventLemmas.{stands_after}
use Rattle.touch_laws.proofs.OwnLemmas.{own_requests}
use Rattle.net_follow.specs.Kept.{AreOwnRequests, IsTied}
use Rattle.net_follow.specs.Load.{AreIdle}
use Rattle.net_follow.specs.Counted.{HasGiftRoom}
use Rattle.net_follow.specs.declared.follower.Follower.{Follower}
use Rattle.net_follow.specs.InStep.{inputs_of}
use Rattle.net_rebuild.specs.declared.rebuild.Rebuild.{Rebuild}
use Rattle.net_rebuild.specs.Rebuild.{AreFewRows, IsRebuildOf}

history_reached : (moment : Moment) → IsHistory moment → IsReached moment.inputs
history_reached moment IsHistory.nothing = IsReached.nothing
history_reached moment (IsHistory.came before event history comes) = IsReached.behind before.inputs event (history_reached before history)
history_reached moment (IsHistory.settled before made rest history are) = history_reached before history

changed_conf : (inputs : Inputs) (event : Event) → (changed inputs event).conf ≡ conf_after inputs event
changed_conf inputs (event.Load conf) = refl
changed_conf inputs (event.Device what) = refl
changed_conf inputs (event.Operator interface up) = refl
changed_conf inputs (event.Answer interface number answer) = refl
changed_conf inputs (event.Radio radio number ports) = refl

module _ (moment : Moment) (event : Event) (now : Inputs) (history : IsHistory moment) (is : now ≡ after moment.inputs event) where
  reached_now : IsReached now
  reached_now = subst IsReached (sym is) (IsReached.behind moment.inputs event (history_reached moment history))

  pub own_now : AreOwnRequests now
  own_now o row member named = own_requests now reached_now o row member named

  pub few_now : AreFewRows (changed moment.inputs event).conf → AreFewRows now.conf
  few_now few =
      let same : now.conf ≡ (changed moment.inputs event).conf = ap (λ (i : Inputs). i.conf) is ∙ conf_follows moment.inputs event ∙ sym (changed_conf moment.inputs event) in
      subst AreFewRows (sym same) few

  pub once_now : StandOnce moment.inputs → refusal moment event ≡ None → StandOnce now
  once_now once free = subst StandOnce (sym is) (stands_after moment event (history_reached moment history) once free)

-- all that is made is that of the inputs after the event
module _ (f : Follower) (event : Event) (made : Rebuild) (now : Inputs) (known : made.inputs.inputs ≡ now) (is : now ≡ after (inputs_of f) event) where
  of_known : (P : Inputs → Type 0) → P now → P made.inputs.inputs
  of_known P p = subst P (sym known) p

  pub is_rebuild : made.notices.items ≡ notices_between (inputs_of f) now → IsTied now made.states → AreIdle made.states.list.items → gift.held_of made.gifts ≡ gift.held_of f.settling.gifts → ((o : Object) → givers_of made.gifts o ≡ 0)
      → HasGiftRoom now made.gifts
      → made.plain.items ≡ further_names now → map port_of made.ports.items ≡ radio_ports (facts_of now) → now.next ≤ 2 ^ 63 → length now.conf.interfaces ≤ vec_capacity made.touched
      → 2 * length now.conf.interfaces ≤ deque_capacity made.notices → AreFewRows now.conf → IsRebuildOf f event made
  is_rebuild told tied idle held none places further ports next touched room few = record {
    inputs = known ∙ is;
    told = told ∙ ap (notices_between (inputs_of f)) is;
    tied = of_known (λ (i : Inputs). IsTied i made.states) tied;
    idle = idle;
    held = held;
    none = none;
    places = of_known (λ (i : Inputs). HasGiftRoom i made.gifts) places;
    further = of_known (λ (i : Inputs). made.plain.items ≡ further_names i) further;
    ports = of_known (λ (i : Inputs). map port_of made.ports.items ≡ radio_ports (facts_of i)) ports;
    next = of_known (λ (i : Inputs). i.next ≤ 2 ^ 63) next;
    touched = of_known (λ (i : Inputs). length i.conf.interfaces ≤ vec_capacity made.touched) touched;
    notice_room = of_known (λ (i : Inputs). 2 * length i.conf.interfaces ≤ deque_capacity made.notices) room;
    routes = of_known (λ (i : Inputs). length i.conf.routes ≤ 2 ^ 49) few.routes;
  }
