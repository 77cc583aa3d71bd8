-- What is told of the requests of touched interfaces.
use Rattle.std.proofs.Common.{arith, ◌≡◌, ◌≤◌, ◌<◌, inl, inr, ℕ, ◌+◌, List, [], ◌∷◌, ◌++◌, map, Bool, true, false, cond, Contains, None, refl, ap, sym, subst, ◌∙◌, append-nil}
use Rattle.std.specs.Prelude.{filter, not, ◌&&◌, ◌||◌, nat_le, ◌==◌}
use Rattle.std.specs.List.{list_any}
use Rattle.std.specs.Ordering.{nat_cmp}
use Rattle.std.proofs.lemmas.List.Elements.{filter-append, Contains-append_left, Contains-append_right, Contains-append_cases}
use Rattle.plane_words.specs.InOrder.{ordered}
use Rattle.kern_model.proofs.MemberLemmas.{first_or_later, none_in_nil, map_member, member_of_map}
use Rattle.kern_model.proofs.TestLemmas.{true_of_both_ways}
use Rattle.kern_calls.proofs.FilterLemmas.{from_filter, in_filter}
use Rattle.net_rules.specs.declared.request.InterfaceRequest.{InterfaceRequest}
use Rattle.net_rules.specs.declared.inputs.Inputs.{Inputs}
use Rattle.net_rules.specs.declared.inputs.OpenInterface.{OpenInterface}
use Rattle.net_rules.specs.declared.inputs.OpenRadio.{OpenRadio}
use Rattle.net_rules.specs.declared.event.Notice.TheVariants as notice
use Rattle.net_rules.specs.Inputs.{facts_of}
use Rattle.net_rules.specs.Numbers.{AreRising, interface_numbers, radio_numbers, AreNumbered}
use Rattle.net_rules.specs.After.{opened_interfaces}
use Rattle.net_rules.specs.Notices.{numbers_of, interface_notice, radio_notice, notices_between}
use Rattle.net_rules.specs.Fresh.{IsReached}
use Rattle.net_rules.proofs.ListLemmas.{within_filter}
use Rattle.net_rules.proofs.NumberLemmas.{reached_numbered}
use Rattle.net_rules.specs.Touched.{HasSameRequests, is_needed, left_requests, lost_numbers, touched_requests, asked_of}
use Rattle.net_rules.proofs.TouchNumberLemmas.{between, rising_kept, in_order, one_of_number, any_number, number_of_any, none_lost, none_new, all_new}
use Rattle.net_rules.proofs.AskedLemmas.{filter_alike}

-- mapped lists
map_behind : {X Y : Type 0} (f : X → Y) (xs ys : List X) → map f (xs ++ ys) ≡ map f xs ++ map f ys
map_behind f [] ys = refl
map_behind f (x ∷ xs) ys = ap (λ zs. f x ∷ zs) (map_behind f xs ys)

filter_mapped : {X Y : Type 0} (p : Y → Bool) (f : X → Y) (xs : List X) → filter p (map f xs) ≡ map f (filter (λ x. p (f x)) xs)
filter_mapped p f [] = refl
filter_mapped {X} p f (x ∷ xs) = by_test (p (f x)) (filter_mapped p f xs)
  where
    by_test : (b : Bool) → filter p (map f xs) ≡ map f (filter (λ y. p (f y)) xs) → cond b (f x ∷ filter p (map f xs)) (filter p (map f xs)) ≡ map f (cond b (x ∷ filter (λ y. p (f y)) xs) (filter (λ y. p (f y)) xs))
    by_test true rest = ap (λ ys. f x ∷ ys) rest
    by_test false rest = rest

negated : (b c : Bool) → not (not b || c) ≡ (b && not c)
negated true c = refl
negated false c = refl

-- opened requests have numbers from the next on
opened_above : (next : ℕ) (requests : List InterfaceRequest) (o : OpenInterface) → Contains (opened_interfaces next requests) o → next ≤ o.number
opened_above next [] o h = absurd (none_in_nil o h)
opened_above next (a ∷ others) o h = elim (first_or_later (record { number = next; request = a; answer = None }) (opened_interfaces (next + 1) others) o h) as (λ _. next ≤ o.number) [
  | inl same ↦ subst (λ (x : OpenInterface). next ≤ x.number) same (omega arith)
  | inr later ↦ let above = opened_above (next + 1) others o later in omega (arith, above)
]

abbrev number : OpenInterface → ℕ
number o = o.number

-- requests of which some are left, and others opened
module _ (os new : List OpenInterface) (rs : List ℕ) (next : ℕ) (p : OpenInterface → Bool) (rising : AreRising 1 next (map number os)) (apart : (n : ℕ) → Contains (map number os) n → Contains rs n → ⊥)
    (above : (o : OpenInterface) → Contains new o → next ≤ o.number) where
  abbrev current : List ℕ
  current = map number (filter p os ++ new) ++ rs

  abbrev is_given : OpenInterface → Bool
  is_given o = list_any (λ m. m == o.number) current

  left_given : (o : OpenInterface) → Contains os o → p o ≡ true → is_given o ≡ true
  left_given o member passes = any_number current o.number
      (Contains-append_left (map number (filter p os ++ new)) rs o.number
      (map_member number (filter p os ++ new) o
      (Contains-append_left (filter p os) new o (in_filter p os o member passes))))

  given_left : (o : OpenInterface) → Contains os o → is_given o ≡ true → p o ≡ true
  given_left o member h =
      let within = between 1 next (map number os) o.number rising (map_member number os o member) in
      let below : o.number < next = within.1 in
      elim (Contains-append_cases (map number (filter p os ++ new)) rs o.number (number_of_any current o.number h)) as (λ _. p o ≡ true) [
        | inl requests ↦
            let from = member_of_map number (filter p os ++ new) o.number requests in
            elim (Contains-append_cases (filter p os) new from.source from.member) as (λ _. p o ≡ true) [
              | inl old ↦
                  let is : from.source ≡ o = one_of_number number os 1 next rising from.source o (within_filter p os from.source old) member from.same in
                  subst (λ x. p x ≡ true) is (from_filter p os from.source old)
              | inr opened ↦ let up = above from.source opened in let at : from.source.number ≡ o.number = from.same in absurd (omega (arith, up, at, below))
            ]
        | inr radio ↦ absurd (apart o.number (map_member number os o member) radio)
      ]

  lost_alike : (o : OpenInterface) → Contains os o → not (is_given o) ≡ not (p o)
  lost_alike o member = ap not (true_of_both_ways (is_given o) (p o) (given_left o member) (left_given o member))

  pub lost_are : filter (λ n. not (list_any (λ m. m == n) current)) (map number os ++ rs) ≡ map number (filter (λ o. not (p o)) os)
  lost_are =
      let lost = λ (n : ℕ). not (list_any (λ m. m == n) current) in
      filter-append lost (map number os) rs
      ∙ ap (λ ns. filter lost (map number os) ++ ns) (none_lost current rs (λ n h. Contains-append_right (map number (filter p os ++ new)) rs n h))
      ∙ append-nil (filter lost (map number os))
      ∙ filter_mapped lost number os
      ∙ ap (map number) (filter_alike (λ o. not (is_given o)) (λ o. not (p o)) os lost_alike)

  pub lost_in_order : ordered nat_cmp (map number (filter (λ o. not (p o)) os)) ≡ map number (filter (λ o. not (p o)) os)
  lost_in_order = in_order 1 next (map number (filter (λ o. not (p o)) os)) (rising_kept number (λ o. not (p o)) os 1 next rising)

  pub new_are : filter (λ o. nat_le next o.number) (filter p os ++ new) ≡ new
  new_are =
      filter-append (λ (o : OpenInterface). nat_le next o.number) (filter p os) new
      ∙ ap (λ xs. xs ++ filter (λ (o : OpenInterface). nat_le next o.number) new) (none_new number next 1 (filter p os) (rising_kept number p os 1 next rising))
      ∙ all_new number next new above

module _ (before now : Inputs) (touched : List ℕ → Bool) (reached : IsReached before) (same : HasSameRequests before now) where
  numbered : AreNumbered before
  numbered = reached_numbered before reached

  rising_now : AreRising 1 now.next (interface_numbers now)
  rising_now = subst (λ n. AreRising 1 n (interface_numbers now)) (sym same.next) (subst (λ (os : List OpenInterface). AreRising 1 before.next (map (λ o. o.number) os)) (sym same.interfaces) numbered.interfaces)

  radios_rising : AreRising 1 now.next (radio_numbers now)
  radios_rising = subst (λ n. AreRising 1 n (radio_numbers now)) (sym same.next) (subst (λ (os : List OpenRadio). AreRising 1 before.next (map (λ o. o.number) os)) (sym same.radios) numbered.radios)

  apart_now : (n : ℕ) → Contains (interface_numbers now) n → Contains (radio_numbers now) n → ⊥
  apart_now n h g = numbered.apart n
      (subst (λ (os : List OpenInterface). Contains (map (λ o. o.number) os) n) same.interfaces h)
      (subst (λ (os : List OpenRadio). Contains (map (λ o. o.number) os) n) same.radios g)

  numbers_same : numbers_of before ≡ numbers_of now
  numbers_same =
      let back : numbers_of now ≡ numbers_of before = λ i. map (λ o. o.number) (same.interfaces i) ++ map (λ o. o.number) (same.radios i) in
      sym back

  abbrev is_left : OpenInterface → Bool
  is_left o = not (touched o.request.name) || is_needed (facts_of now) o

  abbrev left : List OpenInterface
  left = left_requests (facts_of now) touched now.interfaces

  abbrev opened : List OpenInterface
  opened = opened_interfaces now.next (touched_requests now touched left)

  abbrev asked_now : Inputs
  asked_now = asked_of touched now

  opened_new : (o : OpenInterface) → Contains opened o → now.next ≤ o.number
  opened_new = opened_above now.next (touched_requests now touched left)

  lost_named : map (λ o. o.number) (filter (λ o. not (is_left o)) now.interfaces) ≡ lost_numbers (facts_of now) touched now.interfaces
  lost_named = ap (map (λ o. o.number)) (filter_alike (λ (o : OpenInterface). not (is_left o)) (λ (o : OpenInterface). touched o.request.name && not (is_needed (facts_of now) o)) now.interfaces
      (λ o h. negated (touched o.request.name) (is_needed (facts_of now) o)))

  lost_told : ordered nat_cmp (filter (λ n. not (list_any (λ m. m == n) (numbers_of asked_now))) (numbers_of before)) ≡ lost_numbers (facts_of now) touched now.interfaces
  lost_told =
      ap (λ ns. ordered nat_cmp (filter (λ n. not (list_any (λ m. m == n) (numbers_of asked_now))) ns)) numbers_same
      ∙ ap (ordered nat_cmp) (lost_are now.interfaces opened (radio_numbers now) now.next is_left rising_now apart_now opened_new)
      ∙ lost_in_order now.interfaces opened (radio_numbers now) now.next is_left rising_now apart_now opened_new
      ∙ lost_named

  opened_told : filter (λ o. nat_le before.next o.number) asked_now.interfaces ≡ opened
  opened_told =
      ap (λ next. filter (λ o. nat_le next o.number) asked_now.interfaces) (sym same.next)
      ∙ new_are now.interfaces opened (radio_numbers now) now.next is_left rising_now apart_now opened_new

  none_of_radios : filter (λ o. nat_le before.next o.number) asked_now.radios ≡ []
  none_of_radios =
      ap (λ next. filter (λ o. nat_le next o.number) now.radios) (sym same.next)
      ∙ none_new (λ o. o.number) now.next 1 now.radios radios_rising

  pub told_then : notices_between before (asked_of touched now) ≡ map notice.Dropped (lost_numbers (facts_of now) touched now.interfaces) ++ map (interface_notice now.conf) opened
  told_then =
      (λ i. map notice.Dropped (lost_told i) ++ (map (interface_notice now.conf) (opened_told i) ++ map (radio_notice now.conf) (none_of_radios i)))
      ∙ ap (λ ns. map notice.Dropped (lost_numbers (facts_of now) touched now.interfaces) ++ ns) (append-nil (map (interface_notice now.conf) opened))
