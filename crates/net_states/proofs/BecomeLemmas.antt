-- What is kept, where one interface becomes another.
use Rattle.std.proofs.Common.{arith, inl, inr, ℕ, ◌≡◌, ◌⊎◌, ◌≤◌, ◌<◌, List, [], length, get_or, Bool, true, false, Option, Some, None, refl, ap, sym, subst, ◌∙◌}
use Rattle.std.specs.Prelude.{◌&&◌, ◌||◌, is_some, slice_get, slice_set, if◌then◌else◌, vec_capacity}
use Rattle.std.proofs.lemmas.List.{length-set}
use Rattle.kern_model.proofs.MemberLemmas.{none_in_nil}
use Rattle.kern_model.proofs.TestLemmas.{both, either, of_left, of_right}
use Rattle.net_rows.specs.declared.rows.InterfaceRow.{InterfaceRow}
use Rattle.net_rules.specs.declared.answer.Answer.{Answer}
use Rattle.net_rules.specs.declared.inputs.Inputs.{Inputs}
use Rattle.net_rules.specs.Facts.{Facts}
use Rattle.net_rules.specs.Inputs.{facts_of}
use Rattle.net_rules.specs.Rows.{asks_nothing}
use Rattle.net_rules.specs.RadioPorts.{device_of}
use Rattle.net_rules.specs.Available.{available}
use Rattle.net_rules.specs.Interfaces.{is_ready, answer_of, l3_device_of, serves_l3_device, is_answered_up, is_up}
use Rattle.net_rules.specs.Want.{given_by}
use Rattle.graph_rules.specs.State.{Known, place_among}
use Rattle.graph_laws.proofs.BelowLemmas.{unknown_below}
use Rattle.graph_settle.specs.SettlingState.{SettlingState}
use Rattle.given_objects.specs.Gifts.{Gifts}
use Rattle.net_reach.specs.Reach.{IsReachOf}
use Rattle.net_rules.specs.declared.state.InterfaceState.{InterfaceState}
use Rattle.net_rules.specs.States.{is_first, IsStateOf, IsIdle, IsStateAs}
use Rattle.net_rules.proofs.AnswerLemmas.{used_available}
use Rattle.net_gifts.specs.Giving.{gives, HavePlaces}
use Rattle.net_states.specs.declared.states.States.{States}
use Rattle.net_states.specs.Kept.{IsNoted, IsNotedAs, IsAtHand, AreNoted, IsTied}
use Rattle.net_states.specs.Counted.{AgreesWith, HasGiftRoom, needs_no_answer, IsCountedBy}
use Rattle.net_states.specs.Becoming.{idle, CanBecome, IsNext, Follows}
use Rattle.net_states.proofs.PlaceLemmas.{get_of_set, set_same, read_is}

-- ---- what is kept beside rows

-- nothing but the list differs
pub kept_twice : (a b c : States) → b ≡ record a { list = b.list } → c ≡ record b { list = c.list } → c ≡ record a { list = c.list }
kept_twice a b c first second = second ∙ ap (λ (s : States). let now : States = record s { list = c.list } in now) first

module _ (inputs : Inputs) where
  noted_as : (first : Bool) (row : InterfaceRow) (old new : InterfaceState) → new.device ≡ old.device → new.number ≡ old.number → (first ≡ false → IsIdle new) → IsNotedAs first inputs row old → IsNotedAs first inputs row new
  noted_as true row old new device number unused noted = record { device = device ∙ noted.device; number = number ∙ noted.number }
  noted_as false row old new device number unused noted = record { idle = unused refl; number = number ∙ noted.number }

  -- another state at one place, of the same device and ask
  module _ (states now : States) (place : ℕ) (row : InterfaceRow) (old new : InterfaceState)
      (row_at : slice_get inputs.conf.interfaces place ≡ Some row) (is : slice_get states.list.items place ≡ Some old)
      (list : now.list.items ≡ slice_set states.list.items place new) (kept : now ≡ record states { list = now.list })
      (first : new.is_first ≡ old.is_first) (device : new.device ≡ old.device) (number : new.number ≡ old.number) (unused : old.is_first ≡ false → IsIdle new) where
    -- what stands at a place is new there, or stood there before
    stood : (q : ℕ) (st : InterfaceState) → slice_get now.list.items q ≡ Some st → ((q ≡ place) × (st ≡ new)) ⊎ ((q ≡ place → ⊥) × (slice_get states.list.items q ≡ Some st))
    stood q st at = get_of_set states.list.items place q new st (ap (λ (ss : List InterfaceState). slice_get ss q) (sym list) ∙ at)

    row_same : (q : ℕ) (r : InterfaceRow) → slice_get inputs.conf.interfaces q ≡ Some r → q ≡ place → r ≡ row
    row_same q r at same = let here : slice_get inputs.conf.interfaces place ≡ Some r = ap (slice_get inputs.conf.interfaces) (sym same) ∙ at in cc (here, row_at)

    spare_same : now.spare ≡ states.spare
    spare_same = ap (λ (s : States). s.spare) kept

    first_at : AreNoted inputs states → (q : ℕ) (r : InterfaceRow) (st : InterfaceState) → slice_get inputs.conf.interfaces q ≡ Some r → slice_get now.list.items q ≡ Some st → st.is_first ≡ is_first inputs.conf.interfaces q r.name
    first_at noted q r st at here = elim (stood q st here) as (λ _. st.is_first ≡ is_first inputs.conf.interfaces q r.name) [
      | inl it ↦ ap (λ (s : InterfaceState). s.is_first) it.1 ∙ first ∙ noted.first q r old at (ap (slice_get states.list.items) it.0 ∙ is)
      | inr other ↦ noted.first q r st at other.1
    ]

    each_at : AreNoted inputs states → (q : ℕ) (r : InterfaceRow) (st : InterfaceState) → slice_get inputs.conf.interfaces q ≡ Some r → slice_get now.list.items q ≡ Some st → IsNotedAs st.is_first inputs r st
    each_at noted q r st at here = elim (stood q st here) as (λ _. IsNotedAs st.is_first inputs r st) [
      | inl it ↦
          let was : IsNotedAs old.is_first inputs r old = noted.each q r old at (ap (slice_get states.list.items) it.0 ∙ is) in
          let becomes : IsNotedAs old.is_first inputs r new = noted_as old.is_first r old new device number unused was in
          subst (λ (s : InterfaceState). IsNotedAs s.is_first inputs r s) (sym it.1) (subst (λ b. IsNotedAs b inputs r new) (sym first) becomes)
      | inr other ↦ noted.each q r st at other.1
    ]

    at_hand_at : AreNoted inputs states → (q : ℕ) (r : InterfaceRow) (st : InterfaceState) → slice_get inputs.conf.interfaces q ≡ Some r → slice_get now.list.items q ≡ Some st → st.is_first ≡ true → asks_nothing r.proto ≡ false → st.number
        ≡ None → IsAtHand r (slice_get states.spare.items q)
    at_hand_at noted q r st at here is_it requests none = elim (stood q st here) as (λ _. IsAtHand r (slice_get states.spare.items q)) [
      | inl it ↦
          noted.at_hand q r old at (ap (slice_get states.list.items) it.0 ∙ is)
          (sym first ∙ ap (λ (s : InterfaceState). s.is_first) (sym it.1) ∙ is_it) requests
          (sym number ∙ ap (λ (s : InterfaceState). s.number) (sym it.1) ∙ none)
      | inr other ↦ noted.at_hand q r st at other.1 is_it requests none
    ]

    noted_still : AreNoted inputs states → AreNoted inputs now
    noted_still noted = record {
      size = ap length list ∙ length-set states.list.items place new ∙ noted.size;
      spare_size = ap (λ (s : States). length s.spare.items) kept ∙ noted.spare_size;
      first = first_at noted;
      each = each_at noted;
      at_hand = λ q r st at here is_it requests none. subst (λ (s : States). IsAtHand r (slice_get s.spare.items q)) (sym kept) (at_hand_at noted q r st at here is_it requests none);
    }

    pub tied_still : IsTied inputs states → IsTied inputs now
    tied_still tied = record {
      reach = subst (λ (s : States). IsReachOf inputs s.reach) (sym kept) tied.reach;
      own = tied.own;
      noted = noted_still tied.noted;
      room = subst (λ (s : States). length inputs.conf.interfaces ≤ vec_capacity s.lost) (sym kept) tied.room;
    }

  -- what was read of a place stands there
  pub stands : (states : States) (place : ℕ) (st : InterfaceState) → IsTied inputs states → place < length inputs.conf.interfaces → st ≡ get_or states.list.items place st → slice_get states.list.items place ≡ Some st
  stands states place st tied within is = read_is states.list.items place st (omega (arith, tied.noted.size, within)) is

  -- ---- what an interface may become

  -- it is idle
  pub can_idle : (c : SettlingState) (row : InterfaceRow) (old : InterfaceState) → CanBecome inputs c row old (idle old)
  can_idle c row old = record {
    first = refl;
    device = refl;
    number = refl;
    unused = λ _. record { claimed = refl; up = refl };
    known = λ name uses. cc uses;
    places = λ o member. absurd (none_in_nil o member);
  }

  -- what is available is a name of the graph
  known_name : (s : Known) → AgreesWith inputs s → (name : List ℕ) → available (facts_of inputs) name ≡ true → is_some (place_among s.names name) ≡ true
  known_name s agrees name there = by (place_among s.names name) refl
    where
      by : (o : Option ℕ) → place_among s.names name ≡ o → is_some o ≡ true
      by None is = let none = (unknown_below (facts_of inputs) s agrees.below agrees.knows name is).0 in cc (there, none)
      by (Some k) is = refl

  answered : (answer : Option Answer) → is_answered_up answer ≡ true → is_some answer ≡ true
  answered None is = cc is
  answered (Some a) is = refl

  -- an interface that is up needs no further answer
  up_needs_none : (row : InterfaceRow) → is_up (facts_of inputs) row ≡ true → needs_no_answer (facts_of inputs) row ≡ true
  up_needs_none row up =
      let facts : Facts = facts_of inputs in
      let served : Bool = is_answered_up (answer_of facts row) && serves_l3_device facts (device_of facts row) (l3_device_of facts row) in
      let told = (both (is_ready facts row) (asks_nothing row.proto || served) up).1 in
      elim (either (asks_nothing row.proto) served told) as (λ _. needs_no_answer facts row ≡ true) [
        | inl own ↦ of_left (asks_nothing row.proto) (is_some (answer_of facts row)) own
        | inr by_answer ↦ of_right (asks_nothing row.proto) (is_some (answer_of facts row))
            (answered (answer_of facts row) (both (is_answered_up (answer_of facts row)) (serves_l3_device facts (device_of facts row) (l3_device_of facts row)) by_answer).0)
      ]

  places_by : (gs : Gifts) (row : InterfaceRow) (up : Bool) (l3_device : Option (List ℕ)) → (up ≡ true → HavePlaces gs (given_by (facts_of inputs) row l3_device)) → HavePlaces gs (if up then given_by (facts_of inputs) row l3_device else [])
  places_by gs row true l3_device has = has refl
  places_by gs row false l3_device has = λ o member. absurd (none_in_nil o member)

  has_places : (gs : Gifts) → HasGiftRoom inputs gs → (place : ℕ) (row : InterfaceRow) (new : InterfaceState) → slice_get inputs.conf.interfaces place ≡ Some row → is_first inputs.conf.interfaces place row.name ≡ true
      → IsStateOf (facts_of inputs) row new → HavePlaces gs (gives (facts_of inputs) row new)
  has_places gs room place row new at first is =
      places_by gs row new.is_up new.l3_device
      (λ up. subst (λ (l3_device : Option (List ℕ)). HavePlaces gs (given_by (facts_of inputs) row l3_device)) (sym is.l3_device)
      (room.places place row at first (up_needs_none row (sym is.up ∙ up))))

  device_as : (first : Bool) (row : InterfaceRow) (st : InterfaceState) → first ≡ true → IsNotedAs first inputs row st → IsNoted inputs row st
  device_as true row st is noted = noted
  device_as false row st is noted = cc is

  pub device_noted : (states : States) → IsTied inputs states → (place : ℕ) (row : InterfaceRow) (st : InterfaceState) → slice_get inputs.conf.interfaces place ≡ Some row → slice_get states.list.items place ≡ Some st → st.is_first ≡ true
      → st.device ≡ device_of (facts_of inputs) row
  device_noted states tied place row st at is first = (device_as st.is_first row st first (tied.noted.each place row st at is)).device

  -- it is what it is by the inputs
  pub can_next : (states : States) (c : SettlingState) → IsTied inputs states → IsCountedBy inputs states.list.items c → (place : ℕ) (row : InterfaceRow) (old new : InterfaceState) → slice_get inputs.conf.interfaces place ≡ Some row
      → slice_get states.list.items place ≡ Some old → old.is_first ≡ true → IsNext inputs row old new → CanBecome inputs c row old new
  can_next states c tied counted place row old new at is first next = record {
    first = next.first;
    device = next.is.device ∙ sym (device_noted states tied place row old at is first);
    number = next.number;
    unused = λ other. cc (first, other);
    known = λ name uses. known_name c.graph.known counted.agrees name (used_available (facts_of inputs) row new next.is name uses);
    places = has_places c.gifts counted.room place row new at (sym (tied.noted.first place row old at is) ∙ first) next.is;
  }

  state_as : (first : Bool) (row : InterfaceRow) (new : InterfaceState) → first ≡ true → IsStateOf (facts_of inputs) row new → IsStateAs first (facts_of inputs) row new
  state_as true row new is state = state
  state_as false row new is state = cc is

  idle_as : (first noted : Bool) (row : InterfaceRow) (st : InterfaceState) → first ≡ noted → noted ≡ false → IsNotedAs noted inputs row st → IsStateAs first (facts_of inputs) row st
  idle_as false false row st same is st_noted = st_noted.idle
  idle_as false true row st same is st_noted = cc is
  idle_as true noted row st same is st_noted = cc (same, is)

  -- the first row of a name follows once it is next, and another follows as it is
  pub follows_next : (states : States) (list : List InterfaceState) → IsTied inputs states → (place : ℕ) (row : InterfaceRow) (old new : InterfaceState) → slice_get inputs.conf.interfaces place ≡ Some row → slice_get states.list.items place
      ≡ Some old → old.is_first ≡ true → IsNext inputs row old new → list ≡ slice_set states.list.items place new → Follows inputs place states.list.items list
  follows_next states list tied place row old new at is first next listed = record {
    new = new;
    list = listed;
    is = λ r r_at.
        let same : row ≡ r = cc (at, r_at) in
        subst (λ (x : InterfaceRow). IsStateAs (is_first inputs.conf.interfaces place x.name) (facts_of inputs) x new) same
        (state_as (is_first inputs.conf.interfaces place row.name) row new (sym (tied.noted.first place row old at is) ∙ first) next.is);
  }

  pub follows_idle : (states : States) → IsTied inputs states → (place : ℕ) (old : InterfaceState) → slice_get states.list.items place ≡ Some old → old.is_first ≡ false → Follows inputs place states.list.items states.list.items
  follows_idle states tied place old is other = record {
    new = old;
    list = sym (set_same states.list.items place old is);
    is = λ r r_at. idle_as (is_first inputs.conf.interfaces place r.name) old.is_first r old (sym (tied.noted.first place r old r_at is)) other (tied.noted.each place r old r_at is);
  }
