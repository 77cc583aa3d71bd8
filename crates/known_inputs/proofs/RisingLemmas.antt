-- Asks by rising number.
use Rattle.std.proofs.Common.{arith, ℕ, zero, suc, ◌≡◌, ◌≢◌, ◌<◌, ◌≤◌, ◌+◌, ◌==◌, List, [], ◌∷◌, ◌++◌, map, length, get_or, Bool, true, false, cond, ltb, Result, Ok, Err, IfOk, IfErr, None, refl, sym}
use Rattle.std.specs.Prelude.{filter}
use Rattle.std.specs.List.{AllByRecursion}
use Rattle.std.specs.List.Sorted.{IsSearchInRange, IsBinarySearchResult, IsNonDecreasingBy}
use Rattle.std.specs.Ordering.{nat_cmp, ordering_index}
use Rattle.std.proofs.lemmas.Cmp.{ranked}
use Rattle.std.proofs.lemmas.Bool.Decides.{nat_tests}
use Rattle.plane_words.specs.Distinct.{AreDistinct}
use Rattle.net_rules.specs.declared.inputs.OpenInterface.{OpenInterface}
use Rattle.net_rules.specs.Numbers.{AreRising}
use Rattle.known_inputs.specs.Steps.{has_number}
use Rattle.known_inputs.specs.Places.{NonePass, OnlyAt}
use Rattle.known_inputs.proofs.PlaceLemmas.{all_weaker, only_at}

above : (least bound : ℕ) (ns : List ℕ) → AreRising least bound ns → AllByRecursion (λ m. least ≤ m) ns
above least bound [] rising = tt
above least bound (n ∷ ns) rising =
    let from = rising.0 in
    (from, all_weaker (λ m. n + 1 ≤ m) (λ m. least ≤ m) (λ m h. omega (arith, h, from)) ns (above (n + 1) bound ns rising.2))

pub rising_distinct : (least bound : ℕ) (ns : List ℕ) → AreRising least bound ns → AreDistinct ns
rising_distinct least bound [] rising = tt
rising_distinct least bound (n ∷ ns) rising = (
  all_weaker (λ m. n + 1 ≤ m) (λ m. m ≢ n) (λ m h same. omega (arith, h, same)) ns (above (n + 1) bound ns rising.2),
  rising_distinct (n + 1) bound ns rising.2,
)

wider : (least low bound high : ℕ) → low ≤ least → bound ≤ high → (ns : List ℕ) → AreRising least bound ns → AreRising low high ns
wider least low bound high p q [] h = tt
wider least low bound high p q (n ∷ ns) h = let from = h.0 in let to = h.1 in (omega arith, omega arith, wider (n + 1) (n + 1) bound high (omega arith) q ns h.2)

-- without some of them, and with one of the next number
pub rising_filtered : (p : OpenInterface → Bool) (os : List OpenInterface) (least bound : ℕ) → AreRising least bound (map (λ o. o.number) os) → AreRising least bound (map (λ o. o.number) (filter p os))
rising_filtered p [] least bound h = tt
rising_filtered p (o ∷ os) least bound h = by (p o) (rising_filtered p os (o.number + 1) bound h.2)
  where
    by : (b : Bool) → AreRising (o.number + 1) bound (map (λ x. x.number) (filter p os)) → AreRising least bound (map (λ x. x.number) (cond b (o ∷ filter p os) (filter p os)))
    by true rest = (h.0, h.1, rest)
    by false rest = let from = h.0 in wider (o.number + 1) least bound bound (omega arith) (omega arith) (map (λ x. x.number) (filter p os)) rest

pub rising_pushed : (least next : ℕ) (ns : List ℕ) → least ≤ next → AreRising least next ns → AreRising least (next + 1) (ns ++ next ∷ [])
rising_pushed least next [] from h = (from, omega arith, tt)
rising_pushed least next (n ∷ ns) from h = let to = h.1 in (h.0, omega arith, rising_pushed (n + 1) next ns (omega arith) h.2)

-- how they are found
abbrev no_request : OpenInterface
no_request = record { number = 0; request = record { name = []; proto = []; options = []; device = None }; answer = None }

module _ (number : ℕ) where
  later_above : (os : List OpenInterface) (least bound k : ℕ) (d : OpenInterface) → AreRising least bound (map (λ o. o.number) os) → k < length os → least ≤ (get_or os k d).number
  later_above [] least bound k d rising within = absurd (omega arith)
  later_above (o ∷ os) least bound zero d rising within = rising.0
  later_above (o ∷ os) least bound (suc k) d rising within =
      let from = rising.0 in let later = later_above os (o.number + 1) bound k d rising.2 (omega arith) in omega (arith, from, later)

  rise_on : (os : List OpenInterface) (least bound i j : ℕ) (d : OpenInterface) → AreRising least bound (map (λ o. o.number) os) → i ≤ j → j < length os → (get_or os i d).number ≤ (get_or os j d).number
  rise_on [] least bound i j d rising order within = absurd (omega arith)
  rise_on (o ∷ os) least bound zero zero d rising order within = omega arith
  rise_on (o ∷ os) least bound zero (suc j) d rising order within = let later = later_above os (o.number + 1) bound j d rising.2 (omega arith) in omega (arith, later)
  rise_on (o ∷ os) least bound (suc i) zero d rising order within = absurd (omega arith)
  rise_on (o ∷ os) least bound (suc i) (suc j) d rising order within = rise_on os (o.number + 1) bound i j d rising.2 (omega arith) (omega arith)

  none_pass : (os : List OpenInterface) → ((k : ℕ) (d : OpenInterface) → k < length os → (get_or os k d).number ≢ number) → NonePass (has_number number) os
  none_pass [] others = tt
  none_pass (o ∷ os) others = (by (o.number == number) refl, none_pass os (λ k d within. others (suc k) d (omega arith)))
    where
      by : (b : Bool) → (o.number == number) ≡ b → b ≡ false
      by true is = let same : o.number ≡ number = grind (arith, nat_tests, is) in absurd (others 0 o (omega arith) same)
      by false is = refl

  pub same_number : (a b : ℕ) → (a == number) ≡ true → (b == number) ≡ true → a ≡ b
  same_number a b p q = grind (arith, nat_tests, p, q)

  module _ (os : List OpenInterface) (least bound : ℕ) (rising : AreRising least bound (map (λ o. o.number) os)) where
    compared : IsNonDecreasingBy (λ o. ordering_index (nat_cmp o.number number)) os
    compared i j d order within = let rise = rise_on os least bound i j d rising order within in grind (arith, nat_tests, rise)

    here : (k : ℕ) (d : OpenInterface) → k < length os → (get_or os k d).number ≡ number → OnlyAt (has_number number) os k
    here k d within is = only_at (λ (o : OpenInterface). o.number) (λ n. n == number) same_number os k d (rising_distinct least bound (map (λ o. o.number) os) rising) within (grind (arith, nat_tests, is))

    -- a binary search ends at the request of the number, or there is none
    pub searched : (r : Result ℕ ℕ) → IsSearchInRange r (length os) → IsBinarySearchResult (λ o. nat_cmp o.number number) os r
        → record { found : IfOk r (OnlyAt (has_number number) os); absent : IfErr r (λ gap. NonePass (has_number number) os) }
    searched (Ok k) within equal = record { found = here k no_request within (ranked _ number _ (sym (equal no_request))); absent = tt }
    searched (Err k) within parted = record { found = tt; absent = none_pass os (λ j d inside same. either_side j d inside same (ltb j k) refl) }
      where
        either_side : (j : ℕ) (d : OpenInterface) → j < length os → (get_or os j d).number ≡ number → (b : Bool) → ltb j k ≡ b → ⊥
        either_side j d inside same true low =
            let below : (get_or os j d).number < number = ranked _ number _ (sym ((parted compared).0 j d (omega arith) (grind (arith, nat_tests, low)))) in
            omega (arith, below, same)
        either_side j d inside same false high =
            let over : number < (get_or os j d).number = ranked _ number _ (sym ((parted compared).1 j d (grind (arith, nat_tests, high)) inside)) in
            omega (arith, over, same)
