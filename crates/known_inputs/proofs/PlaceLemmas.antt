-- The one of a list that passes a test, and lists of distinct keys.
use Rattle.std.proofs.Common.{arith, ℕ, zero, suc, ◌≡◌, ◌≢◌, ◌<◌, ◌+◌, inl, inr, List, [], ◌∷◌, Contains, map, length, get_or, slice_get, slice_set, Bool, true, false, cond, Some, None, refl, ap, sym, subst, ◌∙◌}
use Rattle.std.specs.Prelude.{not, filter, remove}
use Rattle.std.specs.List.{find, position, position_from, AllByRecursion}
use Rattle.std.proofs.lemmas.Iterator.Adapters.{position_from-zero}
use Rattle.plane_words.specs.Distinct.{AreDistinct}
use Rattle.kern_model.proofs.MemberLemmas.{first_or_later, none_in_nil, member_of_all, map_member}
use Rattle.known_inputs.specs.Places.{NonePass, OnlyAt}

-- where none passes
pub none_found : {X : Type 0} (p : X → Bool) (xs : List X) → NonePass p xs → find p xs ≡ None
none_found p [] none = refl
none_found p (x ∷ xs) none = ap (λ b. cond b (Some x) (find p xs)) none.0 ∙ none_found p xs none.1

pub none_left_out : {X : Type 0} (p : X → Bool) (xs : List X) → NonePass p xs → filter (λ x. not (p x)) xs ≡ xs
none_left_out p [] none = refl
none_left_out p (x ∷ xs) none =
    ap (λ b. cond (not b) (x ∷ filter (λ y. not (p y)) xs) (filter (λ y. not (p y)) xs)) none.0
    ∙ ap (λ ys. x ∷ ys) (none_left_out p xs none.1)

pub none_changed : {X : Type 0} (p : X → Bool) (f : X → X) → ((x : X) → p x ≡ false → f x ≡ x) → (xs : List X) → NonePass p xs → map f xs ≡ xs
none_changed p f stays [] none = refl
none_changed p f stays (x ∷ xs) none = ap (λ y. y ∷ map f xs) (stays x none.0) ∙ ap (λ ys. x ∷ ys) (none_changed p f stays xs none.1)

-- where one passes
pub only_within : {X : Type 0} (p : X → Bool) (xs : List X) (k : ℕ) → OnlyAt p xs k → k < length xs
only_within p [] k only = absurd only
only_within p (x ∷ xs) zero only = omega arith
only_within p (x ∷ xs) (suc k) only = let later = only_within p xs k only.1 in omega arith

pub only_found : {X : Type 0} (p : X → Bool) (xs : List X) (k : ℕ) → OnlyAt p xs k → find p xs ≡ slice_get xs k
only_found p [] k only = absurd only
only_found p (x ∷ xs) zero only = ap (λ b. cond b (Some x) (find p xs)) only.0
only_found p (x ∷ xs) (suc k) only = ap (λ b. cond b (Some x) (find p xs)) only.0 ∙ only_found p xs k only.1

pub only_left_out : {X : Type 0} (p : X → Bool) (xs : List X) (k : ℕ) → OnlyAt p xs k → filter (λ x. not (p x)) xs ≡ remove xs k
only_left_out p [] k only = absurd only
only_left_out p (x ∷ xs) zero only =
    ap (λ b. cond (not b) (x ∷ filter (λ y. not (p y)) xs) (filter (λ y. not (p y)) xs)) only.0
    ∙ none_left_out p xs only.1
only_left_out p (x ∷ xs) (suc k) only =
    ap (λ b. cond (not b) (x ∷ filter (λ y. not (p y)) xs) (filter (λ y. not (p y)) xs)) only.0
    ∙ ap (λ ys. x ∷ ys) (only_left_out p xs k only.1)

pub only_changed : {X : Type 0} (p : X → Bool) (f : X → X) → ((x : X) → p x ≡ false → f x ≡ x) → (xs : List X) (k : ℕ) (y : X) → OnlyAt p xs k → slice_get xs k ≡ Some y → map f xs ≡ slice_set xs k (f y)
only_changed p f stays [] k y only at = absurd only
only_changed p f stays (x ∷ xs) zero y only at =
    let same : x ≡ y = cc at in
    ap (λ z. z ∷ map f xs) (ap f same) ∙ ap (λ ys. f y ∷ ys) (none_changed p f stays xs only.1)
only_changed p f stays (x ∷ xs) (suc k) y only at =
    ap (λ z. z ∷ map f xs) (stays x only.0) ∙ ap (λ ys. x ∷ ys) (only_changed p f stays xs k y only.1 at)

-- a weaker fact of all
pub all_weaker : {X : Type 0} (P Q : X → Type 0) → ((x : X) → P x → Q x) → (xs : List X) → AllByRecursion P xs → AllByRecursion Q xs
all_weaker P Q f [] all = tt
all_weaker P Q f (x ∷ xs) all = (f x all.0, all_weaker P Q f xs all.1)

-- distinct keys of which a test tells one
module _ {X K : Type 0} (key : X → K) (q : K → Bool) (one : (a b : K) → q a ≡ true → q b ≡ true → a ≡ b) where
  no_others : (x : X) (xs : List X) → q (key x) ≡ true → AllByRecursion (λ other. other ≢ key x) (map key xs) → NonePass (λ y. q (key y)) xs
  no_others x [] here others = tt
  no_others x (y ∷ ys) here others = (by (q (key y)) refl, no_others x ys here others.1)
    where
      by : (b : Bool) → q (key y) ≡ b → b ≡ false
      by true is = absurd (others.0 (one (key y) (key x) is here))
      by false is = refl

  not_first : (x : X) (xs : List X) (k : ℕ) (d : X) → AllByRecursion (λ other. other ≢ key x) (map key xs) → k < length xs → q (key (get_or xs k d)) ≡ true → q (key x) ≡ false
  not_first x [] k d others within later = absurd (omega arith)
  not_first x (y ∷ ys) zero d others within later = by (q (key x)) refl
    where
      by : (b : Bool) → q (key x) ≡ b → b ≡ false
      by true is = absurd (others.0 (one (key y) (key x) later is))
      by false is = refl
  not_first x (y ∷ ys) (suc k) d others within later = not_first x ys k d others.1 (omega arith) later

  pub only_at : (xs : List X) (k : ℕ) (d : X) → AreDistinct (map key xs) → k < length xs → q (key (get_or xs k d)) ≡ true → OnlyAt (λ x. q (key x)) xs k
  only_at [] k d distinct within is = absurd (omega arith)
  only_at (x ∷ xs) zero d distinct within is = (is, no_others x xs is distinct.0)
  only_at (x ∷ xs) (suc k) d distinct within is = (not_first x xs k d distinct.0 (omega arith) is, only_at xs k d distinct.1 (omega arith) is)

  only_from : (xs : List X) (i k : ℕ) → AreDistinct (map key xs) → position_from q i (map key xs) ≡ Some k → (j : ℕ) × (k ≡ i + j) × OnlyAt (λ x. q (key x)) xs j
  only_from [] i k distinct at = cc at
  only_from (x ∷ xs) i k distinct at = by (q (key x)) refl at (only_from xs (i + 1) k distinct.1)
    where
      by : (b : Bool) → q (key x) ≡ b → cond b (Some i) (position_from q (i + 1) (map key xs)) ≡ Some k → (position_from q (i + 1) (map key xs) ≡ Some k → (j : ℕ) × (k ≡ i + 1 + j) × OnlyAt (λ y. q (key y)) xs j) → (j : ℕ) × (k ≡ i + j)
          × OnlyAt (λ y. q (key y)) (x ∷ xs) j
      by true is h more = let same : i ≡ k = cc h in (0, omega (arith, same), (is, no_others x xs is distinct.0))
      by false is h more = let later = more h in let place = later.1 in (suc later.0, omega (arith, place), (is, later.2))

  pub only_of_place : (xs : List X) (k : ℕ) → AreDistinct (map key xs) → Some k ≡ position q (map key xs) → OnlyAt (λ x. q (key x)) xs k
  only_of_place xs k distinct at =
      let found = only_from xs 0 k distinct (sym (position_from-zero q (map key xs)) ∙ sym at) in
      let same : found.0 ≡ k = (let place = found.1 in omega (arith, place)) in
      subst (OnlyAt (λ x. q (key x)) xs) same found.2

  none_from : (xs : List X) (i : ℕ) → position_from q i (map key xs) ≡ None → NonePass (λ x. q (key x)) xs
  none_from [] i at = tt
  none_from (x ∷ xs) i at = by (q (key x)) refl at (none_from xs (i + 1))
    where
      by : (b : Bool) → q (key x) ≡ b → cond b (Some i) (position_from q (i + 1) (map key xs)) ≡ None → (position_from q (i + 1) (map key xs) ≡ None → NonePass (λ y. q (key y)) xs) → NonePass (λ y. q (key y)) (x ∷ xs)
      by true is h more = cc h
      by false is h more = (is, more h)

  pub none_of_place : (xs : List X) → None ≡ position q (map key xs) → NonePass (λ x. q (key x)) xs
  none_of_place xs at = none_from xs 0 (sym (position_from-zero q (map key xs)) ∙ sym at)

  first_fails : (y : X) (ks : List K) (k : K) → AllByRecursion (λ other. other ≢ key y) ks → Contains ks k → q k ≡ true → q (key y) ≡ false
  first_fails y ks k others member is = by (q (key y)) refl
    where
      by : (b : Bool) → q (key y) ≡ b → b ≡ false
      by true here = absurd (member_of_all (λ other. other ≢ key y) ks k others member (one k (key y) is here))
      by false here = refl

  pub found_member : (xs : List X) (x : X) → AreDistinct (map key xs) → Contains xs x → q (key x) ≡ true → find (λ y. q (key y)) xs ≡ Some x
  found_member [] x distinct member is = absurd (none_in_nil x member)
  found_member (y ∷ ys) x distinct member is =
      elim (first_or_later y ys x member) as (λ _. find (λ z. q (key z)) (y ∷ ys) ≡ Some x) [
        | inl same ↦ ap (λ b. cond b (Some y) (find (λ z. q (key z)) ys)) (ap (λ z. q (key z)) same ∙ is) ∙ ap Some same
        | inr later ↦ ap (λ b. cond b (Some y) (find (λ z. q (key z)) ys)) (first_fails y (map key ys) (key x) distinct.0 (map_member key ys x later) is) ∙ found_member ys x distinct.1 later is
      ]

-- what stands at the place
pub only_there : {X : Type 0} (p : X → Bool) (xs : List X) (k : ℕ) → OnlyAt p xs k → (y : X) × (slice_get xs k ≡ Some y) × (p y ≡ true)
only_there p [] k only = absurd only
only_there p (x ∷ xs) zero only = (x, refl, only.0)
only_there p (x ∷ xs) (suc k) only = only_there p xs k only.1
