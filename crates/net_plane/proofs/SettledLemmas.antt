-- The plane after a settling.
use Rattle.std.proofs.Common.{◌≡◌, List, ◌++◌, Result, Ok, Err, OnOk, refl, ap, sym, subst, ◌∙◌}
use Rattle.std.specs.FinSet as set
use Rattle.plane_words.specs.Growth.{Grows}
use Rattle.kern_model.specs.declared.object.Call.{Call}
use Rattle.kern_model.specs.declared.kernel.Kernel.{Ghosts as KernelMembers}
use Rattle.kern_model.specs.CallOrder.{after_calls}
use Rattle.kern_calls.specs.Calls.{calls}
use Rattle.kern_calls.proofs.CountLemmas.{set_of_items}
use Rattle.net_rules.specs.declared.inputs.Inputs.{Inputs}
use Rattle.net_rules.specs.declared.event.Notice.{Notice}
use Rattle.net_rules.specs.Moment.{Moment, devices_of, want_of, IsHistory}
use Rattle.net_rules.proofs.HistoryLemmas.{orderly}
use Rattle.net_settle.specs.declared.settle_error.SettleError.{SettleError}
use Rattle.net_settle.specs.declared.settle_error.SettleError.TheVariants as stop
use Rattle.net_settle.specs.Outside.{Outside}
use Rattle.net_settle.specs.Settle.{SettleEnds}
use Rattle.net_settle.proofs.EndLemmas.{FrontMade, front_made}
use Rattle.given_objects.specs.Gifts.{AreGifts}
use Rattle.net_rebuild.specs.SettlingState as settling_state
use Rattle.net_rebuild.specs.SettlingState.{SettlingState, held_of, wanted_of, IsAlike, IsReady, HoldsAs}
use Rattle.net_rebuild.specs.Beside.{IsSettlingStateOf}
use Rattle.net_rebuild.proofs.SettlingStateLemmas.{has_devices, wants_all, calls_all, history_then}
use Rattle.net_plane.specs.Network.{Network, IsOf, calls_of}
use Rattle.net_plane.specs.declared.net_error.NetError.{NetError}
use Rattle.net_plane.specs.Settled.{Settles, HasMade, told_end}
use Rattle.net_rebuild.specs.Counted.{AgreesWith, IsCountedBy}
use Rattle.net_rebuild.specs.Claiming.{HasClaims}
use Rattle.net_rules.specs.declared.state.InterfaceState.{InterfaceState}
use Rattle.net_rebuild.specs.Follower.{Follower}
use Rattle.net_rebuild.specs.InStep.{inputs_of, IsInStep}

-- inputs and a course as they are seen
abbrev pub seen : Inputs → SettlingState → List Notice → Network
seen inputs c notices = record { inputs = inputs; held = set.items (held_of c); notices = notices; loads = c.graph.loads }

-- a kernel of the plane is one of its course
pub holds_as : {K : Type 0} (kernel : KernelMembers K) (state : K) (inputs : Inputs) (c : SettlingState) (notices : List Notice) → IsSettlingStateOf inputs c → IsOf kernel state (seen inputs c notices) → HoldsAs kernel state c
holds_as kernel state inputs c notices beside of = record {
  devices = of.devices ∙ sym (has_devices inputs c beside);
  objects = of.objects ∙ set_of_items (held_of c);
}

pub is_of : {K : Type 0} (kernel : KernelMembers K) (state : K) (inputs : Inputs) (c : SettlingState) (notices : List Notice) → IsSettlingStateOf inputs c → HoldsAs kernel state c → IsOf kernel state (seen inputs c notices)
is_of kernel state inputs c notices beside holds = record {
  devices = holds.devices ∙ has_devices inputs c beside;
  objects = holds.objects ∙ sym (set_of_items (held_of c));
}

-- how a settling ends, as it is told
pub ends_told : {X : Type 0} (calls rest : List Call) (before after : Outside) (result : Result X SettleError) → SettleEnds calls rest before after result → Settles calls rest before after (told_end result)
ends_told calls rest before after (Ok x) ends = ends
ends_told calls rest before after (Err stop.KernelFailed) ends = ends
ends_told calls rest before after (Err stop.WriteFailed) ends = ends

pub on_told : {X : Type 0} {P Q : Type 0} (result : Result X SettleError) (told : Result X NetError) → told ≡ told_end result → (P → Q) → OnOk result P → OnOk told Q
on_told {X} {P} {Q} (Ok x) told is gives p = subst (λ (t : Result X NetError). OnOk t Q) (sym is) (gives p)
on_told {X} {P} {Q} (Err stop.KernelFailed) told is gives p = subst (λ (t : Result X NetError). OnOk t Q) (sym is) tt
on_told {X} {P} {Q} (Err stop.WriteFailed) told is gives p = subst (λ (t : Result X NetError). OnOk t Q) (sym is) tt

module _ (inputs : Inputs) (c : SettlingState) (notices : List Notice) (history : IsHistory (record { inputs = inputs; held = held_of c })) (beside : IsSettlingStateOf inputs c) (are : AreGifts c.gifts) where
  abbrev moment : Moment
  moment = record { inputs = inputs; held = held_of c }

  -- the calls that are seen are those of the course
  pub calls_seen : calls_of (seen inputs c notices) ≡ settling_state.calls_of c
  calls_seen =
      ap (λ h. calls (devices_of inputs) h (want_of inputs)) (set_of_items (held_of c))
      ∙ sym (calls_all inputs c beside (orderly moment history).sound are)

  pub wants_seen : wanted_of c ≡ want_of inputs
  wants_seen = wants_all inputs c beside (orderly moment history).sound are

-- a settling, by what is seen of the kernel before and after it
module _ {X : Type 0} (inputs : Inputs) (before now : SettlingState) (notices : List Notice) (history : IsHistory (record { inputs = inputs; held = held_of before })) (beside : IsSettlingStateOf inputs before) (are : AreGifts before.gifts)
    (first last : Outside) (result : Result X SettleError) (ends : SettleEnds (settling_state.calls_of before) (settling_state.calls_of now) first last result)
    (was : first.objects ≡ held_of before) (is : last.objects ≡ held_of now) where
  front : FrontMade (settling_state.calls_of before) (settling_state.calls_of now) first last
  front = front_made (settling_state.calls_of before) (settling_state.calls_of now) first last result ends

  held_then : held_of now ≡ after_calls (held_of before) front.made
  held_then = sym is ∙ front.done.held ∙ ap (λ o. after_calls o front.made) was

  pub history_now : IsHistory (record { inputs = inputs; held = held_of now })
  history_now = history_then inputs before now front.made history beside are front.parts held_then

  module _ (beside_now : IsSettlingStateOf inputs now) (are_now : AreGifts now.gifts) where
    pub settles : (told : Result X NetError) → told ≡ told_end result → Settles (calls_of (seen inputs before notices)) (calls_of (seen inputs now notices)) first last told
    settles told as_told =
        subst (λ c. Settles c (calls_of (seen inputs now notices)) first last told) (sym (calls_seen inputs before notices history beside are))
        (subst (λ c. Settles (settling_state.calls_of before) c first last told) (sym (calls_seen inputs now notices history_now beside_now are_now))
        (subst (λ (t : Result X NetError). Settles (settling_state.calls_of before) (settling_state.calls_of now) first last t) (sym as_told)
        (ends_told (settling_state.calls_of before) (settling_state.calls_of now) first last result ends)))

    pub has_made : (made : List Call) × HasMade made (seen inputs before notices) (seen inputs now notices) × Grows first.calls last.calls made
    has_made = (
      front.made,
      record {
        parts = calls_seen inputs before notices history beside are ∙ front.parts ∙ ap (λ c. front.made ++ c) (sym (calls_seen inputs now notices history_now beside_now are_now));
        held = set_of_items (held_of now) ∙ held_then ∙ ap (λ o. after_calls o front.made) (sym (set_of_items (held_of before)));
        inputs = refl;
        notices = refl;
      },
      front.done.logged,
    )

-- what is counted over interfaces stays so in a settling
pub counted_then : (inputs : Inputs) (states : List InterfaceState) (before now : SettlingState) → IsCountedBy inputs states before → IsAlike before now → IsCountedBy inputs states now
counted_then inputs states before now counted alike = record {
  agrees = subst (AgreesWith inputs) (sym alike.known) counted.agrees;
  counted = record {
    claims = subst (HasClaims states) (sym alike.known) counted.counted.claims;
    givers = λ o. alike.givers o ∙ counted.counted.givers o;
  };
  room = record {
    places = λ place row at first needs o given. alike.places o ∙ counted.room.places place row at first needs o given;
    few = counted.room.few;
    rows = counted.room.rows;
  };
}

-- so what is kept stays in step
pub in_step : (f : Follower) (now : SettlingState) → IsInStep f → IsHistory (record { inputs = inputs_of f; held = held_of now }) → IsAlike f.settling now → IsReady now → IsInStep (record f { settling = now })
in_step f now step history alike ready = record {
  history = history;
  states = step.states;
  counted = counted_then (inputs_of f) f.states.list.items f.settling now step.counted alike;
  ready = ready;
  room = record { touched = step.room.touched; notices = step.room.notices; routes = step.room.routes };
}
