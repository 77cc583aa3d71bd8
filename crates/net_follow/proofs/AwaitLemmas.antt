-- What is ready for an answer.
use Rattle.std.proofs.Common.{ℕ, ◌≡◌, List, true, Some, None, ap, sym, subst, ◌∙◌}
use Rattle.std.specs.Prelude.{slice_get, IfSome, Result, Ok, Err, OnOk}
use Rattle.net_rows.specs.declared.rows.InterfaceRow.{InterfaceRow}
use Rattle.net_rows.specs.declared.rows.Conf.{Conf}
use Rattle.net_rules.specs.declared.answer.Answer.{Answer}
use Rattle.net_rules.specs.declared.inputs.Inputs.{Inputs}
use Rattle.net_rules.specs.declared.event.Event.TheVariants as event
use Rattle.net_rules.specs.Interfaces.{l3_device_of}
use Rattle.net_rules.specs.Want.{given_by}
use Rattle.net_rules.specs.Inputs.{facts_of}
use Rattle.net_rules.specs.After.{changed}
use Rattle.net_rules.specs.Refusal.{refusal}
use Rattle.given_objects.specs.Gifts.{Gifts}
use Rattle.state_requests.specs.SettlingState.{held_of}
use Rattle.net_rules.specs.declared.state.InterfaceState.{InterfaceState}
use Rattle.net_rules.specs.States.{is_first}
use Rattle.net_rules.proofs.MoveLemmas.{some_is}
use Rattle.net_gifts.specs.Giving.{HavePlaces}
use Rattle.net_reach.specs.declared.reach.Reach.{Reach}
use Rattle.net_reach.specs.Groups.{HasRoomAt}
use Rattle.net_reach.specs.Reach.{interface_place}
use Rattle.asked_places.proofs.PlaceLemmas.{first_at_place}
use Rattle.state_requests.specs.States.{States}
use Rattle.state_requests.specs.Kept.{IsTied}
use Rattle.net_follow.specs.declared.follower.Follower.{Follower}
use Rattle.net_follow.specs.InStep.{inputs_of}
use Rattle.net_follow.specs.Answering.{HasAnswerRoom, l3_device_by, given_hearing}
use Rattle.net_follow.proofs.AnswerLemmas.{is_open, places_hearing}
use Rattle.net_follow.proofs.StepLemmas.{moment_of}

pub on_ok : {T E A B : Type 0} (result : Result T E) → (A → B) → OnOk result A → OnOk result B
on_ok (Ok x) then is = then is
on_ok (Err e) then is = tt

-- the row at the place of a name has that name, and is the first of it
pub named_at : (conf : Conf) (name : List ℕ) (place : ℕ) → interface_place conf name ≡ Some place → (row : InterfaceRow) → slice_get conf.interfaces place ≡ Some row → row.name ≡ name
named_at conf name place own row at =
    let first = first_at_place conf.interfaces name place own in
    ap (λ (x : InterfaceRow). x.name) (some_is row first.row (sym at ∙ first.at)) ∙ first.named

pub first_there : (inputs : Inputs) (states : States) (name : List ℕ) (place : ℕ) → IsTied inputs states → interface_place inputs.conf name ≡ Some place → (st : InterfaceState) → slice_get states.list.items place ≡ Some st → st.is_first
    ≡ true
first_there inputs states name place tied own st here_is =
    let at = first_at_place inputs.conf.interfaces name place own in
    tied.noted.first place at.row st at.at here_is ∙ ap (is_first inputs.conf.interfaces place) at.named ∙ at.first

module _ (f : Follower) (place : ℕ) (interface : List ℕ) (number : ℕ) (answer : Answer) (own : interface_place (inputs_of f).conf interface ≡ Some place)
    (free : refusal (moment_of (inputs_of f) (held_of f.settling)) (event.Answer interface number answer) ≡ None) where
  -- there is room
  pub room_for : (gs : Gifts) (reach : Reach) → ((row : InterfaceRow) → slice_get (inputs_of f).conf.interfaces place ≡ Some row
      → HavePlaces gs (given_hearing (facts_of (inputs_of f)) row answer (l3_device_by (facts_of (inputs_of f)) row answer)))
      → IfSome answer.device (HasRoomAt reach.at_l3_device) → (row : InterfaceRow) → slice_get (inputs_of f).conf.interfaces place ≡ Some row
      → HasAnswerRoom (record f { settling = record f.settling { gifts = gs }; states = record f.states { reach = reach } }) row number answer
  room_for gs reach places l3_device row at =
      let o = is_open (inputs_of f) interface number answer (held_of f.settling) free in
      let named : row.name ≡ interface = named_at (inputs_of f).conf interface place own row at in
      record {
        places = subst (λ (name : List ℕ). let facts = facts_of (changed (inputs_of f) (event.Answer name number answer)) in HavePlaces gs (given_by facts row (l3_device_of facts row))) (sym named)
            (places_hearing (inputs_of f) interface number answer o.0 o.1 row named gs (places row at));
        l3_device = l3_device;
      }
