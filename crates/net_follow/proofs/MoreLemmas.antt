-- Places for more gifts leave all in step.
use Rattle.std.proofs.Common.{inl, inr, ℕ, ◌≡◌, List, ◌++◌, map, filter, true, cond, Contains, Option, Some, None, refl, ap, sym, subst, ◌∙◌}
use Rattle.std.specs.Prelude.{filter_map, slice_get}
use Rattle.std.specs.FinSet as set
use Rattle.kern_model.specs.declared.object.Object.{Object}
use Rattle.kern_model.specs.ObjectOrder.{Objects}
use Rattle.kern_model.specs.Allowed.{AreAllowed}
use Rattle.kern_model.proofs.MemberLemmas.{none_in_nil}
use Rattle.net_rows.specs.declared.rows.InterfaceRow.{InterfaceRow}
use Rattle.net_rows.specs.declared.rows.RouteRow.{RouteRow}
use Rattle.net_rules.specs.declared.answer.Answer.{Answer}
use Rattle.net_rules.specs.declared.inputs.Inputs.{Inputs}
use Rattle.net_rules.specs.Facts.{Facts}
use Rattle.net_rules.specs.Rows.{is_static}
use Rattle.net_rules.specs.Want.{of_options, of_answer}
use Rattle.net_rules.specs.Moment.{IsHistory}
use Rattle.net_wants.specs.Given.{route_on}
use Rattle.net_wants.specs.Grouped.{is_route_named}
use Rattle.net_wants.proofs.GroupLemmas.{items_are}
use Rattle.given_objects.specs.declared.gift.Gift.{Gift}
use Rattle.given_objects.specs.Gifts.{Gifts}
use Rattle.graph_rules.specs.Wanted.{want_in}
use Rattle.state_requests.specs.SettlingState.{SettlingState, held_of, wanted_of, devices_of, IsReady}
use Rattle.gift_places.specs.Expecting.{listed_given, with_places, HasMorePlaces}
use Rattle.gift_places.proofs.LawLemmas.{same_held, same_given, same_givers, still_place, all_places, all_old_or_empty}
use Rattle.net_rules.specs.declared.state.InterfaceState.{InterfaceState}
use Rattle.net_gifts.specs.Giving.{HavePlaces}
use Rattle.state_requests.specs.Counted.{IsCountedBy}
use Rattle.net_follow.specs.declared.follower.Follower.{Follower}
use Rattle.net_follow.specs.InStep.{inputs_of, IsInStep}
use Rattle.net_follow.specs.Answering.{heard, given_hearing}
use Rattle.net_follow.proofs.KeptLemmas.{room_kept}
use Rattle.net_follow.proofs.StepLemmas.{moment_of}

-- ---- more places below what is ready

module _ (c : SettlingState) (os : List Object) where
  abbrev pub with_more : SettlingState
  with_more = record { graph = c.graph; gifts = with_places c.gifts os; may_lose_link = c.may_lose_link }

  pub held_more : held_of with_more ≡ held_of c
  held_more = ap (λ (held : Objects). set.union c.graph.held held) (same_held c.gifts os)

  wanted_more : wanted_of with_more ≡ wanted_of c
  wanted_more = ap (λ (given : Objects). set.union (want_in c.graph.known) given) (same_given c.gifts os)

  -- a gift that is held was there
  was_there : (g : Gift) → Contains (with_places c.gifts os) g → g.held ≡ true → Contains c.gifts g
  was_there g member held = elim (all_old_or_empty c.gifts os g member) as (λ _. Contains c.gifts g) [
    | inl old ↦ old
    | inr empty ↦ let off = empty.0 in cc (held, off)
  ]

  ready_more : IsReady c → IsReady with_more
  ready_more ready = record {
    held = subst (AreAllowed (devices_of c)) (sym held_more) ready.held;
    wanted = subst (AreAllowed (devices_of c)) (sym wanted_more) ready.wanted;
    lower = ready.lower;
    loses_link = λ g member held given. ready.loses_link g (was_there g member held) held given;
    links = ready.links;
    quiet = λ off g member held. ready.quiet off g (was_there g member held) held;
  }

  counted_more : (inputs : Inputs) (list : List InterfaceState) → IsCountedBy inputs list c → IsCountedBy inputs list with_more
  counted_more inputs list counted = record {
    agrees = counted.agrees;
    counted = record { claims = counted.counted.claims; givers = λ o. same_givers c.gifts os o ∙ counted.counted.givers o };
    room = record {
      places = λ place row at first needs o given. still_place c.gifts os o (counted.room.places place row at first needs o given);
      few = counted.room.few;
      rows = counted.room.rows;
    };
  }

module _ (f : Follower) (gs : Gifts) (more : HasMorePlaces f.settling.gifts gs) where
  abbrev pub with_gifts : Gifts → Follower
  with_gifts xs = record f { settling = record f.settling { gifts = xs } }

  step_places : IsInStep f → IsInStep (with_gifts (with_places f.settling.gifts more.objects))
  step_places step = record {
    history = subst (λ (held : Objects). IsHistory (moment_of (inputs_of f) held)) (sym (held_more f.settling more.objects)) step.history;
    states = step.states;
    counted = counted_more f.settling more.objects (inputs_of f) f.states.list.items step.counted;
    ready = ready_more f.settling more.objects step.ready;
    room = room_kept f (with_gifts (with_places f.settling.gifts more.objects)) refl refl refl step.room;
  }

  pub step_more : IsInStep f → IsInStep (with_gifts gs)
  step_more step = subst (λ (xs : Gifts). IsInStep (with_gifts xs)) (sym more.places) (step_places step)

  pub held_same : held_of (with_gifts gs).settling ≡ held_of f.settling
  held_same = ap (λ (xs : Gifts). held_of (with_gifts xs).settling) more.places ∙ held_more f.settling more.objects

-- ---- what is expected of an answer

-- nothing where there is no device
pub none_given : (facts : Facts) (row : InterfaceRow) (answer : Answer) (gs : Gifts) (l3_device : Option (List ℕ)) → l3_device ≡ None → HavePlaces gs (given_hearing facts row answer l3_device)
none_given facts row answer gs l3_device none = subst (λ (l : Option (List ℕ)). HavePlaces gs (given_hearing facts row answer l)) (sym none) (λ o member. absurd (none_in_nil o member))

-- else what is listed
pub all_given : (facts : Facts) (row : InterfaceRow) (answer : Answer) (before gs : Gifts) (l3_device : Option (List ℕ)) (dev : List ℕ) (told : Option Answer) (places : List ℕ) → l3_device ≡ Some dev → told ≡ heard row answer
    → map (slice_get facts.conf.routes) places ≡ map Some (filter (is_route_named facts.conf row.name) facts.conf.routes) → gs ≡ with_places before (listed_given row told facts.conf.routes places dev)
    → HavePlaces gs (given_hearing facts row answer l3_device)
all_given facts row answer before gs l3_device dev told places at hears routes is =
    let listed : filter_map (slice_get facts.conf.routes) places ≡ filter (is_route_named facts.conf row.name) facts.conf.routes = items_are facts.conf.routes places (filter (is_route_named facts.conf row.name) facts.conf.routes) routes in
    let same : listed_given row told facts.conf.routes places dev ≡ given_hearing facts row answer (Some dev) =
    ap (λ (a : Option Answer). cond {A = List Object} (is_static row.proto) (of_options row dev) (of_answer dev a) ++ map (route_on dev) (filter_map (slice_get facts.conf.routes) places)) hears
    ∙ ap (λ (rs : List RouteRow). cond {A = List Object} (is_static row.proto) (of_options row dev) (of_answer dev (heard row answer)) ++ map (route_on dev) rs) listed in
    let has : HavePlaces gs (listed_given row told facts.conf.routes places dev) =
    subst (λ (xs : Gifts). HavePlaces xs (listed_given row told facts.conf.routes places dev)) (sym is) (all_places before (listed_given row told facts.conf.routes places dev)) in
    subst (λ (l : Option (List ℕ)). HavePlaces gs (given_hearing facts row answer l)) (sym at) (subst (HavePlaces gs) same has)
