-- No number is given to two asks.
use Rattle.std.proofs.Common.{arith, ◌≡◌, ◌⊎◌, inl, inr, ℕ, ◌+◌, ◌<◌, ◌≤◌, List, [], ◌∷◌, ◌++◌, map, length, Bool, true, false, cond, Contains, Option, Some, None, refl, ap, sym, subst, ◌∙◌}
use Rattle.std.specs.Prelude.{bytes_eq, filter, ◌&&◌, ◌==◌, not, is_none}
use Rattle.std.specs.List.{filter_map, cons_option}
use Rattle.std.proofs.lemmas.List.Elements.{Contains-append_cases}
use Rattle.kern_model.proofs.MemberLemmas.{here, there, first_or_later, none_in_nil}
use Rattle.net_rules.specs.declared.answer.Answer.{Answer}
use Rattle.net_rules.specs.declared.request.InterfaceRequest.{InterfaceRequest}
use Rattle.net_rules.specs.declared.request.RadioRequest.{RadioRequest}
use Rattle.net_rules.specs.declared.inputs.Inputs.{Inputs}
use Rattle.net_rules.specs.declared.inputs.OpenInterface.{OpenInterface}
use Rattle.net_rules.specs.declared.inputs.OpenRadio.{OpenRadio}
use Rattle.net_rules.specs.declared.event.Event.{Event}
use Rattle.net_rules.specs.declared.event.Event.TheVariants as event
use Rattle.net_rules.specs.Firsts.{firsts}
use Rattle.net_rules.specs.Rows.{interfaces_of, radios_of}
use Rattle.net_rules.specs.Inputs.{facts_of, open_interface, open_radio}
use Rattle.net_rules.specs.Need.{interface_need, radio_need}
use Rattle.net_rules.specs.After.{answered_interface, answered_radio, changed, radios_dropped, interfaces_dropped, new_interface_requests, new_radio_requests, opened_interfaces, opened_radios, asked, after}
use Rattle.net_rules.specs.Fresh.{IsReached}
use Rattle.net_rules.specs.Numbers.{AreRising, interface_numbers, radio_numbers, AreNumbered}

-- lists of rising numbers
wider : (least low bound high : ℕ) → low ≤ least → bound ≤ high → (ns : List ℕ) → AreRising least bound ns → AreRising low high ns
wider least low bound high p q [] h = tt
wider least low bound high p q (n ∷ ns) h = let from = h.0 in let to = h.1 in (omega arith, omega arith, wider (n + 1) (n + 1) bound high (omega arith) q ns h.2)

within : (least bound : ℕ) (ns : List ℕ) (n : ℕ) → AreRising least bound ns → Contains ns n → (least ≤ n) × (n < bound)
within least bound [] n h member = absurd (none_in_nil n member)
within least bound (m ∷ ms) n h member =
    let from = h.0 in let to = h.1 in
    elim (first_or_later m ms n member) as (λ _. (least ≤ n) × (n < bound)) [
      | inl same ↦ (subst (λ k. least ≤ k) same from, subst (λ k. k < bound) same to)
      | inr later ↦ let rest = within (m + 1) bound ms n h.2 later in let above = rest.0 in (omega arith, rest.1)
    ]

behind : (least middle bound : ℕ) → least ≤ middle → middle ≤ bound → (ns ms : List ℕ) → AreRising least middle ns → AreRising middle bound ms → AreRising least bound (ns ++ ms)
behind least middle bound p q [] ms h g = wider middle least bound bound p (omega arith) ms g
behind least middle bound p q (n ∷ ns) ms h g = let to = h.1 in (h.0, omega arith, behind (n + 1) middle bound (omega arith) q ns ms h.2 g)

-- a filter leaves them rising
filtered_step : {O : Type 0} (number : O → ℕ) (b : Bool) (o : O) (os : List O) (least bound : ℕ) → least ≤ number o → number o < bound → AreRising (number o + 1) bound (map number os)
    → AreRising least bound (map number (cond b (o ∷ os) os))
filtered_step number true o os least bound from to rest = (from, to, rest)
filtered_step number false o os least bound from to rest = wider (number o + 1) least bound bound (omega arith) (omega arith) (map number os) rest

filtered : {O : Type 0} (number : O → ℕ) (p : O → Bool) → (os : List O) (least bound : ℕ) → AreRising least bound (map number os) → AreRising least bound (map number (filter p os))
filtered number p [] least bound h = tt
filtered number p (o ∷ os) least bound h = filtered_step number (p o) o (filter p os) least bound h.0 h.1 (filtered number p os (number o + 1) bound h.2)

first_kept : {O : Type 0} (number : O → ℕ) (b : Bool) (o : O) (os : List O) (n : ℕ) → Contains (map number (cond b (o ∷ os) os)) n → (number o ≡ n) ⊎ Contains (map number os) n
first_kept number true o os n h = first_or_later (number o) (map number os) n h
first_kept number false o os n h = inr h

filtered_member : {O : Type 0} (number : O → ℕ) (p : O → Bool) → (os : List O) (n : ℕ) → Contains (map number (filter p os)) n → Contains (map number os) n
filtered_member number p [] n h = h
filtered_member number p (o ∷ os) n h = elim (first_kept number (p o) o (filter p os) n h) as (λ _. Contains (map number (o ∷ os)) n) [
  | inl same ↦ subst (Contains (map number (o ∷ os))) same (here (number o) (map number os))
  | inr later ↦ there (number o) (map number os) n (filtered_member number p os n later)
]

-- the opened ones
interfaces_rise : (next : ℕ) (requests : List InterfaceRequest) (bound : ℕ) → next + length requests ≡ bound → AreRising next bound (map (λ o. o.number) (opened_interfaces next requests))
interfaces_rise next [] bound e = tt
interfaces_rise next (a ∷ others) bound e = (omega arith, omega arith, interfaces_rise (next + 1) others bound (omega arith))

radios_rise : (next : ℕ) (requests : List RadioRequest) (bound : ℕ) → next + length requests ≡ bound → AreRising next bound (map (λ o. o.number) (opened_radios next requests))
radios_rise next [] bound e = tt
radios_rise next (a ∷ others) bound e = (omega arith, omega arith, radios_rise (next + 1) others bound (omega arith))

map_behind : {O : Type 0} (number : O → ℕ) (xs ys : List O) → map number (xs ++ ys) ≡ map number xs ++ map number ys
map_behind number [] ys = refl
map_behind number (x ∷ xs) ys = ap (λ zs. number x ∷ zs) (map_behind number xs ys)

module _ (inputs : Inputs) (least_next : 1 ≤ inputs.next) (numbered : AreNumbered inputs) where
  abbrev dropped : Inputs
  dropped = interfaces_dropped (radios_dropped inputs)

  abbrev new_interfaces : List OpenInterface
  new_interfaces = opened_interfaces inputs.next (new_interface_requests dropped)

  abbrev middle : ℕ
  middle = inputs.next + length (new_interface_requests dropped)

  abbrev new_radios : List OpenRadio
  new_radios = opened_radios middle (new_radio_requests dropped)

  abbrev last : ℕ
  last = middle + length (new_radio_requests dropped)

  interfaces_left : AreRising 1 inputs.next (map (λ o. o.number) dropped.interfaces)
  interfaces_left = filtered (λ o. o.number) _ inputs.interfaces 1 inputs.next numbered.interfaces

  radios_left : AreRising 1 inputs.next (map (λ o. o.number) dropped.radios)
  radios_left = filtered (λ o. o.number) _ inputs.radios 1 inputs.next numbered.radios

  interfaces_new : AreRising inputs.next middle (map (λ o. o.number) new_interfaces)
  interfaces_new = interfaces_rise inputs.next (new_interface_requests dropped) middle refl

  radios_new : AreRising middle last (map (λ o. o.number) new_radios)
  radios_new = radios_rise middle (new_radio_requests dropped) last refl

  all_interfaces : AreRising 1 last (map (λ o. o.number) (dropped.interfaces ++ new_interfaces))
  all_interfaces = subst (AreRising 1 last) (sym (map_behind (λ o. o.number) dropped.interfaces new_interfaces))
      (behind 1 inputs.next last least_next (omega arith) (map (λ o. o.number) dropped.interfaces) (map (λ o. o.number) new_interfaces) interfaces_left
      (wider inputs.next inputs.next middle last (omega arith) (omega arith) (map (λ o. o.number) new_interfaces) interfaces_new))

  all_radios : AreRising 1 last (map (λ o. o.number) (dropped.radios ++ new_radios))
  all_radios = subst (AreRising 1 last) (sym (map_behind (λ o. o.number) dropped.radios new_radios))
      (behind 1 middle last (omega arith) (omega arith) (map (λ o. o.number) dropped.radios) (map (λ o. o.number) new_radios)
      (wider 1 1 inputs.next middle (omega arith) (omega arith) (map (λ o. o.number) dropped.radios) radios_left) radios_new)

  still_apart : (n : ℕ) → Contains (map (λ o. o.number) (dropped.interfaces ++ new_interfaces)) n → Contains (map (λ o. o.number) (dropped.radios ++ new_radios)) n → ⊥
  still_apart n h g =
      elim (Contains-append_cases (map (λ o. o.number) dropped.interfaces) (map (λ o. o.number) new_interfaces) n (subst (λ ns. Contains ns n) (map_behind (λ o. o.number) dropped.interfaces new_interfaces) h)) as (λ _. ⊥) [
        | inl old ↦ elim (Contains-append_cases (map (λ o. o.number) dropped.radios) (map (λ o. o.number) new_radios) n (subst (λ ns. Contains ns n) (map_behind (λ o. o.number) dropped.radios new_radios) g)) as (λ _. ⊥) [
          | inl older ↦ numbered.apart n (filtered_member (λ o. o.number) _ inputs.interfaces n old) (filtered_member (λ o. o.number) _ inputs.radios n older)
          | inr new ↦ let below = (within 1 inputs.next (map (λ o. o.number) dropped.interfaces) n interfaces_left old).1 in let above = (within middle last (map (λ o. o.number) new_radios) n radios_new new).0 in omega arith
        ]
        | inr new ↦
            let mine = within inputs.next middle (map (λ o. o.number) new_interfaces) n interfaces_new new in
            let low = mine.0 in
            let high = mine.1 in
            elim (Contains-append_cases (map (λ o. o.number) dropped.radios) (map (λ o. o.number) new_radios) n (subst (λ ns. Contains ns n) (map_behind (λ o. o.number) dropped.radios new_radios) g)) as (λ _. ⊥) [
              | inl older ↦ let below = (within 1 inputs.next (map (λ o. o.number) dropped.radios) n radios_left older).1 in omega arith
              | inr newer ↦ let above = (within middle last (map (λ o. o.number) new_radios) n radios_new newer).0 in omega arith
            ]
      ]

  asked_numbered : AreNumbered (asked inputs)
  asked_numbered = record { interfaces = all_interfaces; radios = all_radios; apart = still_apart }

pub asked_next : (inputs : Inputs) → inputs.next ≤ (asked inputs).next
asked_next inputs = omega arith

-- the first step leaves the numbers
same_numbers : {O : Type 0} (number : O → ℕ) (f : O → O) → ((o : O) → number (f o) ≡ number o) → (os : List O) → map number (map f os) ≡ map number os
same_numbers number f same [] = refl
same_numbers number f same (o ∷ os) = ap (λ n. n ∷ map number (map f os)) (same o) ∙ ap (λ ns. number o ∷ ns) (same_numbers number f same os)

interface_number : (interface : List ℕ) (number : ℕ) (answer : Answer) (o : OpenInterface) → (answered_interface interface number answer o).number ≡ o.number
interface_number interface number answer o = by_test (bytes_eq o.request.name interface && (o.number == number))
  where
    by_test : (b : Bool) → (cond b (record o { answer = Some answer }) o).number ≡ o.number
    by_test true = refl
    by_test false = refl

radio_number : (radio : List ℕ) (number : ℕ) (ports : List (Option (List ℕ))) (o : OpenRadio) → (answered_radio radio number ports o).number ≡ o.number
radio_number radio number ports o = by_test (bytes_eq o.request.name radio && (o.number == number))
  where
    by_test : (b : Bool) → (cond b (record o { ports = Some ports }) o).number ≡ o.number
    by_test true = refl
    by_test false = refl

numbered_by : (inputs now : Inputs) → now.next ≡ inputs.next → interface_numbers now ≡ interface_numbers inputs → radio_numbers now ≡ radio_numbers inputs → AreNumbered inputs → AreNumbered now
numbered_by inputs now nexts interfaces radios numbered = record {
  interfaces = subst (λ ns. AreRising 1 now.next ns) (sym interfaces) (subst (λ n. AreRising 1 n (interface_numbers inputs)) (sym nexts) numbered.interfaces);
  radios = subst (λ ns. AreRising 1 now.next ns) (sym radios) (subst (λ n. AreRising 1 n (radio_numbers inputs)) (sym nexts) numbered.radios);
  apart = λ n h g. numbered.apart n (subst (λ ns. Contains ns n) interfaces h) (subst (λ ns. Contains ns n) radios g);
}

changed_next : (inputs : Inputs) (event : Event) → (changed inputs event).next ≡ inputs.next
changed_next inputs (event.Load conf) = refl
changed_next inputs (event.Device what) = refl
changed_next inputs (event.Operator interface up) = refl
changed_next inputs (event.Answer interface number answer) = refl
changed_next inputs (event.Radio radio number ports) = refl

changed_numbered : (inputs : Inputs) (event : Event) → AreNumbered inputs → AreNumbered (changed inputs event)
changed_numbered inputs (event.Load conf) numbered = numbered_by inputs (changed inputs (event.Load conf)) refl refl refl numbered
changed_numbered inputs (event.Device what) numbered = numbered_by inputs (changed inputs (event.Device what)) refl refl refl numbered
changed_numbered inputs (event.Operator interface up) numbered = numbered_by inputs (changed inputs (event.Operator interface up)) refl refl refl numbered
changed_numbered inputs (event.Answer interface number answer) numbered =
    numbered_by inputs (changed inputs (event.Answer interface number answer)) refl (same_numbers (λ o. o.number) (answered_interface interface number answer) (interface_number interface number answer) inputs.interfaces) refl numbered
changed_numbered inputs (event.Radio radio number ports) numbered =
    numbered_by inputs (changed inputs (event.Radio radio number ports)) refl refl (same_numbers (λ o. o.number) (answered_radio radio number ports) (radio_number radio number ports) inputs.radios) numbered

pub next_rises : (inputs : Inputs) (event : Event) → inputs.next ≤ (after inputs event).next
unfolding after
next_rises inputs event = let same = changed_next inputs event in let rises = asked_next (changed inputs event) in omega arith

-- no more asks than rows
few_kept : {X : Type 0} (b : Bool) (x : X) (xs : List X) (n : ℕ) → length xs ≤ n → length (cond b (x ∷ xs) xs) ≤ n + 1
few_kept true x xs n few = omega arith
few_kept false x xs n few = omega arith

few_filtered : {X : Type 0} (p : X → Bool) → (xs : List X) → length (filter p xs) ≤ length xs
few_filtered p [] = omega arith
few_filtered p (x ∷ xs) = let few = few_kept (p x) x (filter p xs) (length xs) (few_filtered p xs) in omega arith

few_in_cons : {Y : Type 0} (o : Option Y) (ys : List Y) (n : ℕ) → length ys ≤ n → length (cons_option o ys) ≤ n + 1
few_in_cons None ys n few = omega arith
few_in_cons (Some y) ys n few = omega arith

few_given : {X Y : Type 0} (f : X → Option Y) → (xs : List X) → length (filter_map f xs) ≤ length xs
few_given f [] = omega arith
few_given f (x ∷ xs) = let few = few_in_cons (f x) (filter_map f xs) (length xs) (few_given f xs) in omega arith

few_firsts : {X : Type 0} (key : X → List ℕ) → (xs : List X) → length (firsts key xs) ≤ length xs
few_firsts key [] = omega arith
few_firsts key (x ∷ xs) =
    let rest = few_firsts key xs in
    let few = few_filtered (λ y. not (bytes_eq (key y) (key x))) (firsts key xs) in
    omega arith

few_interfaces : (inputs : Inputs) → length (new_interface_requests inputs) ≤ length inputs.conf.interfaces
few_interfaces inputs =
    let needs = filter_map (interface_need (facts_of inputs)) (interfaces_of inputs.conf) in
    let new = few_filtered (λ request. is_none (open_interface inputs.interfaces request.name)) needs in
    let given = few_given (interface_need (facts_of inputs)) (interfaces_of inputs.conf) in
    let rows = few_firsts (λ row. row.name) inputs.conf.interfaces in
    omega arith

few_radios : (inputs : Inputs) → length (new_radio_requests inputs) ≤ length inputs.conf.radios
few_radios inputs =
    let needs = filter_map radio_need (radios_of inputs.conf) in
    let new = few_filtered (λ request. is_none (open_radio inputs.radios request.name)) needs in
    let given = few_given radio_need (radios_of inputs.conf) in
    let rows = few_firsts (λ row. row.name) inputs.conf.radios in
    omega arith

asked_few : (inputs : Inputs) → (asked inputs).next ≤ inputs.next + (length inputs.conf.interfaces + length inputs.conf.radios)
asked_few inputs =
    let dropped = interfaces_dropped (radios_dropped inputs) in
    let interfaces = few_interfaces dropped in
    let radios = few_radios dropped in
    omega arith

pub next_few : (inputs : Inputs) (event : Event) → (after inputs event).next ≤ inputs.next + (length (after inputs event).conf.interfaces + length (after inputs event).conf.radios)
unfolding after
next_few inputs event = let same = changed_next inputs event in let few = asked_few (changed inputs event) in omega arith

record IsNumberedFrom (inputs : Inputs) : Type 0 where
  least : 1 ≤ inputs.next
  numbered : AreNumbered inputs

numbered_after : (inputs : Inputs) (event : Event) → IsNumberedFrom inputs → IsNumberedFrom (after inputs event)
unfolding after
numbered_after inputs event was =
    let from = was.least in
    let same = changed_next inputs event in
    let least_changed : 1 ≤ (changed inputs event).next = omega arith in
    let rises = asked_next (changed inputs event) in
    record { least = omega arith; numbered = asked_numbered (changed inputs event) least_changed (changed_numbered inputs event was.numbered) }

numbered_all : (inputs : Inputs) → IsReached inputs → IsNumberedFrom inputs
numbered_all inputs IsReached.nothing = record { least = omega arith; numbered = record { interfaces = tt; radios = tt; apart = λ n h g. none_in_nil n h } }
numbered_all inputs (IsReached.behind before event reached) = numbered_after before event (numbered_all before reached)

pub reached_numbered : (inputs : Inputs) → IsReached inputs → AreNumbered inputs
reached_numbered inputs reached = (numbered_all inputs reached).numbered
