-- An answer came, and the interface that it is for was let down before.
use Rattle.std.proofs.Common.{arith, inl, inr, ℕ, zero, suc, ◌≡◌, ◌<◌, List, [], ◌∷◌, length, false, Contains, Option, Some, None, refl, ap, sym, subst, ◌∙◌}
use Rattle.std.specs.Prelude.{slice_get, slice_set, IfSome}
use Rattle.std.specs.Option.{option_and_then}
use Rattle.kern_model.proofs.MemberLemmas.{first_or_later, none_in_nil}
use Rattle.net_rows.specs.declared.rows.InterfaceRow.{InterfaceRow}
use Rattle.net_rules.specs.declared.answer.Answer.{Answer}
use Rattle.net_rules.specs.declared.inputs.Inputs.{Inputs}
use Rattle.net_rules.specs.declared.inputs.OpenInterface.{OpenInterface}
use Rattle.net_rules.specs.declared.event.Event.TheVariants as event
use Rattle.net_rules.specs.Interfaces.{l3_device_of}
use Rattle.net_rules.specs.Want.{given_by}
use Rattle.net_rules.specs.Inputs.{facts_of}
use Rattle.net_rules.specs.After.{changed}
use Rattle.net_rules.specs.Refusal.{refusal}
use Rattle.state_requests.specs.SettlingState.{SettlingState, held_of}
use Rattle.known_inputs.specs.Known.{StandOnce}
use Rattle.known_inputs.specs.Steps.{request_of}
use Rattle.net_rules.specs.declared.state.InterfaceState.{InterfaceState}
use Rattle.net_rules.proofs.MoveLemmas.{some_is}
use Rattle.net_gifts.specs.Giving.{HavePlaces}
use Rattle.net_gifts.proofs.BareLemmas.{places_stay}
use Rattle.net_reach.specs.declared.reach.Reach.{Reach}
use Rattle.net_reach.specs.Groups.{HasRoomAt}
use Rattle.net_reach.specs.Reach.{IsReachOf, interface_place}
use Rattle.net_reach.specs.L3Devices.{TellsL3Device}
use Rattle.asked_places.proofs.PlaceLemmas.{first_at_place}
use Rattle.state_requests.specs.States.{States}
use Rattle.state_requests.specs.Kept.{IsTied, FollowBut}
use Rattle.state_requests.specs.Counted.{IsCountedBy, DiffersInCounts}
use Rattle.state_requests.specs.Becoming.{idle}
use Rattle.net_follow.specs.declared.follower.Follower.{Follower}
use Rattle.net_follow.specs.InStep.{inputs_of, IsInStep}
use Rattle.net_follow.specs.Answering.{HasAnswerRoom}
use Rattle.net_follow.proofs.OperatorStateLemmas.{place_within}
use Rattle.net_follow.proofs.AnswerLemmas.{now, is_open, is_short, set_here, set_other, tied_told, l3_device_tells, follow_told, counted_told}
use Rattle.net_follow.proofs.StepLemmas.{moment_of}

at_within : {X : Type 0} (xs : List X) (n : ℕ) → n < length xs → (x : X) × (slice_get xs n ≡ Some x)
at_within [] n within = absurd (omega (arith, within))
at_within (x ∷ xs) zero within = (x, refl)
at_within (x ∷ xs) (suc n) within = at_within xs n (omega (arith, within))

-- the places of one
pub one_within : (places : List ℕ) (place bound : ℕ) → places ≡ place ∷ [] → place < bound → (q : ℕ) → Contains places q → q < bound
one_within places place bound are within q member = elim (first_or_later place [] q (subst (λ (ps : List ℕ). Contains ps q) are member)) as (λ _. q < bound) [
  | inl same ↦ subst (λ k. k < bound) same within
  | inr later ↦ absurd (none_in_nil q later)
]

-- what is to be refreshed
pub record IsDown (inputs : Inputs) (places : List ℕ) (states : States) (c : SettlingState) : Type 0 where
  pub tied : IsTied inputs states
  pub follow : FollowBut inputs places states.list.items
  pub counted : IsCountedBy inputs states.list.items c

pub down_at : (inputs now : Inputs) (places some : List ℕ) (states : States) (c : SettlingState) → inputs ≡ now → places ≡ some → IsDown now some states c → IsDown inputs places states c
down_at inputs now places some states c is are down =
    subst (λ (x : Inputs). IsDown x places states c) (sym is) (subst (λ (ps : List ℕ). IsDown now ps states c) (sym are) down)

module _ (f : Follower) (place : ℕ) (interface : List ℕ) (number : ℕ) (answer : Answer) (step : IsInStep f) (own : interface_place (inputs_of f).conf interface ≡ Some place)
    (free : refusal (moment_of (inputs_of f) (held_of f.settling)) (event.Answer interface number answer) ≡ None)
    (room : (row : InterfaceRow) → slice_get (inputs_of f).conf.interfaces place ≡ Some row → HasAnswerRoom f row number answer) where
  abbrev pub then : Inputs
  then = changed (inputs_of f) (event.Answer interface number answer)

  -- there is room at the layer-3 device
  pub l3_device_room : (reach : Reach) → reach ≡ f.states.reach → IfSome answer.device (HasRoomAt reach.at_l3_device)
  l3_device_room reach is =
      let at = first_at_place (inputs_of f).conf.interfaces interface place own in
      subst (λ (r : Reach). IfSome answer.device (HasRoomAt r.at_l3_device)) (sym is) (room at.row at.at).l3_device

  row_named : (r : InterfaceRow) → slice_get (inputs_of f).conf.interfaces place ≡ Some r → r.name ≡ interface
  row_named r at =
      let first = first_at_place (inputs_of f).conf.interfaces interface place own in
      ap (λ (x : InterfaceRow). x.name) (some_is r first.row (sym at ∙ first.at)) ∙ first.named

  module _ (once : StandOnce (inputs_of f)) (states : States) (c : SettlingState) (tied : IsTied (inputs_of f) states) (counted : IsCountedBy (inputs_of f) states.list.items c)
      (list : (st : InterfaceState) → slice_get f.states.list.items place ≡ Some st → states.list.items ≡ slice_set f.states.list.items place (idle st))
      (stays : DiffersInCounts f.settling c) where
    -- the layer-3 device moves
    pub tells : (was : Option (List ℕ)) → was ≡ option_and_then (λ (x : OpenInterface). option_and_then (λ (a : Answer). a.device) x.answer) (request_of (inputs_of f) number) → TellsL3Device (inputs_of f) then interface was answer.device
    tells was is =
        let o = is_open (inputs_of f) interface number answer (held_of f.settling) free in
        l3_device_tells (inputs_of f) interface number answer once o.0 o.1 was is

    its_state : (st : InterfaceState) × (slice_get f.states.list.items place ≡ Some st)
    its_state =
        let within : place < length (inputs_of f).conf.interfaces = place_within (inputs_of f).conf interface place own in
        let size : length f.states.list.items ≡ length (inputs_of f).conf.interfaces = step.states.tied.noted.size in
        at_within f.states.list.items place (omega (arith, within, size))

    is_down : (st : InterfaceState) → slice_get states.list.items place ≡ Some st → st.is_up ≡ false
    is_down st at =
        let was = its_state in
        let here_is : idle was.0 ≡ st = some_is (idle was.0) st (sym (set_here f.states.list.items place was.0 (idle was.0) was.1) ∙ sym (ap (λ (ss : List InterfaceState). slice_get ss place) (list was.0 was.1)) ∙ at) in
        sym (ap (λ (s : InterfaceState). s.is_up) here_is)

    others_stay : (q : ℕ) → (q ≡ place → ⊥) → slice_get states.list.items q ≡ slice_get f.states.list.items q
    others_stay q apart =
        let was = its_state in
        ap (λ (ss : List InterfaceState). slice_get ss q) (list was.0 was.1) ∙ set_other f.states.list.items place q (idle was.0) apart

    places_there : (r : InterfaceRow) → slice_get (inputs_of f).conf.interfaces place ≡ Some r → HavePlaces c.gifts (given_by (facts_of then) r (l3_device_of (facts_of then) r))
    places_there r at = λ o given.
        let has = subst (λ (name : List ℕ). let facts = facts_of (changed (inputs_of f) (event.Answer name number answer)) in HavePlaces f.settling.gifts (given_by facts r (l3_device_of facts r))) (row_named r at) (room r at).places in
        places_stay f.settling.gifts c.gifts o stays.gifts ∙ has o given

    pub all_down : (reach : Reach) → IsReachOf then reach → IsDown then (place ∷ []) (record states { reach = reach }) c
    all_down reach reaches =
        let o = is_open (inputs_of f) interface number answer (held_of f.settling) free in
        let short = is_short (inputs_of f) interface number answer (held_of f.settling) free in
        record {
          tied = tied_told (inputs_of f) interface number answer states reach reaches tied;
          follow = follow_told (inputs_of f) interface number answer short step.room.routes o.0 o.1 place own f.states.list.items states.list.items others_stay step.states.are.each;
          counted = counted_told (inputs_of f) interface number answer short step.room.routes o.0 o.1 place own states tied is_down c places_there counted;
        }
