-- What was made anew takes the place of what was kept.
use Rattle.std.proofs.Common.{◌≡◌, ℕ, List, ap, sym, subst, ◌∙◌}
use Rattle.std.specs.FinSet as set
use Rattle.kern_model.specs.ObjectOrder.{Objects}
use Rattle.net_rules.specs.declared.inputs.Inputs.{Inputs}
use Rattle.net_rules.specs.declared.event.Event.{Event}
use Rattle.net_rules.specs.Moment.{IsHistory}
use Rattle.graph_rules.specs.State.{State, claims_in}
use Rattle.given_objects.specs.Gifts as gift
use Rattle.net_follow.specs.SettlingState.{SettlingState, held_of, IsReady}
use Rattle.net_gifts.proofs.BareLemmas.{held_stays}
use Rattle.net_follow.specs.Claiming.{DiffersInClaims}
use Rattle.net_follow.specs.States.{States}
use Rattle.net_follow.specs.Kept.{AreStatesOf}
use Rattle.net_follow.specs.Counted.{AgreesWith, IsCountedBy, DiffersInCounts}
use Rattle.net_follow.proofs.StateCountLemmas.{agrees_still}
use Rattle.net_follow.specs.declared.follower.Follower.{Follower}
use Rattle.net_follow.specs.InStep.{inputs_of, HasRoom, IsInStep}
use Rattle.net_rebuild.specs.declared.rebuild.Rebuild.{Rebuild}
use Rattle.net_rebuild.specs.Rebuild.{IsRebuildOf}
use Rattle.net_rebuild.proofs.IdleLemmas.{counted_idle}

-- with what was made anew, and another graph
abbrev pub replaced_by : Follower → State → Rebuild → Follower
replaced_by f graph made = record {
  inputs = made.inputs;
  settling = record { graph = graph; gifts = made.gifts; may_lose_link = f.settling.may_lose_link };
  states = made.states;
  touched = made.touched;
  notices = made.notices;
}

-- the same is held where nothing but claims and givers differs
same_held : (before now : SettlingState) → DiffersInCounts before now → held_of now ≡ held_of before
same_held before now alone =
    ap (λ (h : Objects). set.union h (gift.held_of now.gifts)) alone.graph.held
    ∙ ap (set.union before.graph.held) (held_stays before.gifts now.gifts alone.gifts)

module _ (start before mid : Follower) (event : Event) (made : Rebuild) (graph : State) (rebuild : IsRebuildOf before event made) (gifts : before.settling.gifts ≡ start.settling.gifts)
    (none : (name : List ℕ) → claims_in graph.known name ≡ 0) (stays : DiffersInClaims start.settling.graph graph) (replaced : mid ≡ replaced_by start graph made) where
  pub counted_mid : AgreesWith made.inputs.inputs start.settling.graph.known → IsCountedBy (inputs_of mid) mid.states.list.items mid.settling
  counted_mid agrees =
      subst (λ (f : Follower). IsCountedBy (inputs_of f) f.states.list.items f.settling) (sym replaced)
      (counted_idle made.inputs.inputs made.states.list.items (replaced_by start graph made).settling (agrees_still made.inputs.inputs start.settling.graph graph stays agrees) none rebuild.none rebuild.places rebuild.idle)

  held_mid : held_of mid.settling ≡ held_of start.settling
  held_mid =
      ap (λ (f : Follower). held_of f.settling) replaced
      ∙ ap (λ (h : Objects). set.union h (gift.held_of made.gifts)) stays.held
      ∙ ap (set.union start.settling.graph.held) (rebuild.held ∙ ap gift.held_of gifts)

  room_mid : HasRoom mid
  room_mid = subst HasRoom (sym replaced) (record { touched = rebuild.touched; notices = rebuild.notice_room; routes = rebuild.routes })

  inputs_mid : inputs_of mid ≡ made.inputs.inputs
  inputs_mid = ap inputs_of replaced

  -- interfaces became what they are
  module _ (settled : SettlingState) (alone : DiffersInCounts mid.settling settled) where
    pub held_settled : held_of settled ≡ held_of start.settling
    held_settled = same_held mid.settling settled alone ∙ held_mid

    pub history_settled : IsHistory (record { inputs = made.inputs.inputs; held = held_of start.settling }) → IsHistory (record { inputs = inputs_of mid; held = held_of settled })
    history_settled history =
        subst (λ (h : Objects). IsHistory (record { inputs = inputs_of mid; held = h })) (sym held_settled)
        (subst (λ (i : Inputs). IsHistory (record { inputs = i; held = held_of start.settling })) (sym inputs_mid) history)

    -- and gifts were told whether their names fall
    module _ (states : States) (looked : SettlingState) (are : AreStatesOf (inputs_of mid) states) (counted : IsCountedBy (inputs_of mid) states.list.items looked)
        (held : held_of looked ≡ held_of settled) (ready : IsReady looked) where
      pub step_begun : IsHistory (record { inputs = made.inputs.inputs; held = held_of start.settling }) → IsInStep (record mid { states = states; settling = looked })
      step_begun history = record {
        history = subst (λ (h : Objects). IsHistory (record { inputs = inputs_of mid; held = h })) (sym held) (history_settled history);
        states = are;
        counted = counted;
        ready = ready;
        room = record { touched = room_mid.touched; notices = room_mid.notices; routes = room_mid.routes };
      }
