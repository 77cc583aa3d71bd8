-- One place more, of those at which requests are lost or opened.
use Rattle.std.proofs.Common.{arith, ℕ, ◌≡◌, ◌≤◌, ◌<◌, ◌+◌, List, [], ◌∷◌, ◌++◌, length, get_or, take, drop, map, Contains, Option, Some, None, refl, ap, sym, subst, ◌∙◌, append_assoc}
use Rattle.std.specs.Prelude.{◌↔◌, fold, option_to_list, vec_capacity}
use Rattle.std.specs.List.Sorted.{IsStrictlySortedBy}
use Rattle.std.specs.Ordering.{nat_cmp}
use Rattle.std.proofs.lemmas.List.{take_more, at_drop_more}
use Rattle.net_rules.specs.declared.request.InterfaceRequest.{InterfaceRequest}
use Rattle.net_rules.specs.declared.event.Notice.{Notice}
use Rattle.net_rules.specs.declared.event.Notice.TheVariants as notice
use Rattle.net_rules.specs.declared.inputs.Inputs.{Inputs}
use Rattle.net_rules.specs.Numbers.{AreRising}
use Rattle.net_rules.specs.Inputs.{facts_of}
use Rattle.net_rules.specs.After.{opened_interfaces}
use Rattle.net_rules.specs.Notices.{interface_notice}
use Rattle.net_rules.specs.Touched.{lost_numbers, asked_of}
use Rattle.known_inputs.specs.Known.{Known, StandOnce}
use Rattle.net_states.specs.SettlingState.{SettlingState}
use Rattle.asked_places.specs.Touched.{is_touched}
use Rattle.asked_places.specs.Losing.{lost_at, lost_at_places, left_at}
use Rattle.asked_places.specs.Opening.{opened_at, with_opened, opened_after, opened_notices, told_of_all}
use Rattle.asked_places.proofs.LeftLemmas.{left_more, lost_still, numbers_more}
use Rattle.asked_places.proofs.OpenLemmas.{with_all, opened_all, told_all}
use Rattle.asked_places.proofs.OrderLemmas.{lost_are}
use Rattle.asked_places.proofs.TouchedLemmas.{opened_touched}
use Rattle.touch_laws.specs.Staying.{told_of}
use Rattle.net_states.specs.declared.states.States.{States}
use Rattle.state_requests.specs.Asking.{AreBetween}
use Rattle.state_requests.proofs.ListLemmas.{not_before}

-- ---- room for numbers

pub between_noted : (inputs : Inputs) (places : List ℕ) (before now : States) (c : SettlingState) → now ≡ record before { lost = now.lost } → vec_capacity now.lost ≡ vec_capacity before.lost → AreBetween inputs places before c
    → AreBetween inputs places now c
between_noted inputs places before now c same room was =
    let other : States = record before { lost = now.lost } in
    let there : AreBetween inputs places other c = record {
      tied = record {
        reach = was.tied.reach;
        own = was.tied.own;
        noted = record {
          size = was.tied.noted.size;
          spare_size = was.tied.noted.spare_size;
          first = was.tied.noted.first;
          each = was.tied.noted.each;
          at_hand = was.tied.noted.at_hand;
        };
        room = subst (λ k. length inputs.conf.interfaces ≤ k) (sym room) was.tied.room;
      };
      idle = was.idle;
      follow = was.follow;
      counted = was.counted;
    } in
    subst (λ (s : States). AreBetween inputs places s c) (sym same) there

-- ---- requests that are lost

pub left_step : (first old new : Known) (places : List ℕ) (i : ℕ) → i < length places → old ≡ record first { inputs = left_at first.inputs (take i places) } → new ≡ record old { inputs = left_at old.inputs (get_or places i 0 ∷ []) } → new
    ≡ record first { inputs = left_at first.inputs (take (i + 1) places) }
left_step first old new places i within was step =
    let p = get_or places i 0 in
    step
    ∙ ap (λ (k : Known). let then : Known = record k { inputs = left_at k.inputs (p ∷ []) } in then) was
    ∙ ap (λ (x : Inputs). let then : Known = record first { inputs = x } in then) (left_more first.inputs (take i places) p ∙ ap (left_at first.inputs) (sym (take_more places i 0 within)))

pub lost_step : (first old : Known) (places : List ℕ) (i bound : ℕ) (number : Option ℕ) → AreRising 0 bound places → i < length places → old ≡ record first { inputs = left_at first.inputs (take i places) } → number
    ≡ lost_at old.inputs (get_or places i 0) → lost_at_places first.inputs (take i places) ++ option_to_list number ≡ lost_at_places first.inputs (take (i + 1) places)
lost_step first old places i bound number rising within was is =
    let p = get_or places i 0 in
    ap (λ (n : Option ℕ). lost_at_places first.inputs (take i places) ++ option_to_list n) (is ∙ ap (λ (k : Known). lost_at k.inputs p) was ∙ lost_still first.inputs (take i places) p (not_before 0 bound places i rising within))
    ∙ sym (numbers_more first.inputs (take i places) p)
    ∙ ap (lost_at_places first.inputs) (sym (take_more places i 0 within))

-- ---- requests that are opened

conf_with : (inputs : Inputs) (o : Option InterfaceRequest) → (with_opened inputs o).conf ≡ inputs.conf
conf_with inputs None = refl
conf_with inputs (Some request) = refl

pub conf_opened : (inputs : Inputs) (place : ℕ) → (opened_after inputs place).conf ≡ inputs.conf
conf_opened inputs place = conf_with inputs (opened_at inputs place)

next_with : (inputs : Inputs) (o : Option InterfaceRequest) → (with_opened inputs o).next ≤ inputs.next + 1
next_with inputs None = omega arith
next_with inputs (Some request) = omega arith

pub next_opened : (inputs : Inputs) (place : ℕ) → (opened_after inputs place).next ≤ inputs.next + 1
next_opened inputs place = next_with inputs (opened_at inputs place)

pub none_told : (inputs : Inputs) (place : ℕ) → opened_at inputs place ≡ None → opened_notices inputs place ≡ []
none_told inputs place none = ap (λ (o : Option InterfaceRequest). map (interface_notice inputs.conf) (opened_interfaces inputs.next (option_to_list o))) none

pub none_opened : (inputs : Inputs) (place : ℕ) → opened_at inputs place ≡ None → opened_after inputs place ≡ inputs
none_opened inputs place none = ap (with_opened inputs) none

pub opened_step : (first old new : Known) (places : List ℕ) (i : ℕ) → i < length places → fold opened_after old.inputs (drop i places) ≡ fold opened_after first.inputs places → new
    ≡ record old { inputs = opened_after old.inputs (get_or places i 0) } → fold opened_after new.inputs (drop (i + 1) places) ≡ fold opened_after first.inputs places
opened_step first old new places i within was step =
    ap (λ (k : Known). fold opened_after k.inputs (drop (i + 1) places)) step
    ∙ sym (at_drop_more (fold opened_after old.inputs) places i 0 within)
    ∙ was

pub told_step : (old new : Known) (items more all : List Notice) (places : List ℕ) (i : ℕ) → i < length places → items ++ told_of_all old.inputs (drop i places) ≡ all → new
    ≡ record old { inputs = opened_after old.inputs (get_or places i 0) } → more ≡ items ++ opened_notices old.inputs (get_or places i 0) → more ++ told_of_all new.inputs (drop (i + 1) places) ≡ all
told_step old new items more all places i within was step is =
    let p = get_or places i 0 in
    ap (λ (k : Known). more ++ told_of_all k.inputs (drop (i + 1) places)) step
    ∙ ap (λ (ns : List Notice). ns ++ told_of_all (opened_after old.inputs p) (drop (i + 1) places)) is
    ∙ append_assoc items (opened_notices old.inputs p) (told_of_all (opened_after old.inputs p) (drop (i + 1) places))
    ∙ ap (λ (ns : List Notice). items ++ ns) (sym (at_drop_more (told_of_all old.inputs) places i 0 within))
    ∙ was

-- ---- all that is asked, and told

pub known_asked : (first mid last : Known) (places : List ℕ) → AreRising 0 (length first.inputs.conf.interfaces) places → mid ≡ record first { inputs = left_at first.inputs places } → last
    ≡ record mid { inputs = fold opened_after mid.inputs places } → last ≡ record first { inputs = asked_of (is_touched first.inputs.conf.interfaces places) first.inputs }
known_asked first mid last places rising lost opened =
    opened
    ∙ ap (λ (k : Known). let now : Known = record k { inputs = fold opened_after k.inputs places } in now) lost
    ∙ ap (λ (i : Inputs). let now : Known = record first { inputs = i } in now)
    (opened_all (left_at first.inputs places) 0 (length first.inputs.conf.interfaces) places rising
    ∙ ap (with_all (left_at first.inputs places)) (opened_touched first.inputs places rising))

pub all_told : (first mid : Known) (places numbers : List ℕ) (items middle last : List Notice) → StandOnce first.inputs → AreRising 0 (length first.inputs.conf.interfaces) places → mid ≡ record first { inputs = left_at first.inputs places }
    → IsStrictlySortedBy nat_cmp numbers → ((n : ℕ) → Contains numbers n ↔ Contains (lost_at_places first.inputs places) n) → middle ≡ items ++ map notice.Dropped numbers → last ≡ middle ++ told_of_all mid.inputs places → last ≡ items
    ++ told_of (is_touched first.inputs.conf.interfaces places) first.inputs
all_told first mid places numbers items middle last once rising lost sorted members before after =
    let inputs : Inputs = first.inputs in
    let touched = is_touched inputs.conf.interfaces places in
    let opened : List Notice = told_of_all (left_at inputs places) places in
    after
    ∙ ap (λ (k : Known). middle ++ told_of_all k.inputs places) lost
    ∙ ap (λ (ns : List Notice). ns ++ opened) before
    ∙ append_assoc items (map notice.Dropped numbers) opened
    ∙ ap (λ (ns : List ℕ). items ++ (map notice.Dropped ns ++ opened)) (lost_are inputs once places numbers sorted members)
    ∙ ap (λ (ns : List Notice). items ++ (map notice.Dropped (lost_numbers (facts_of inputs) touched inputs.interfaces) ++ ns))
    (told_all (left_at inputs places) 0 (length inputs.conf.interfaces) places rising
    ∙ ap (λ requests. map (interface_notice inputs.conf) (opened_interfaces inputs.next requests)) (opened_touched inputs places rising))
