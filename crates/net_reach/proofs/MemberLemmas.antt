-- The places of the items that a test tells, with one item more, and with one place out and another in.
use Rattle.std.proofs.Common.{arith, ◌≡◌, ◌≢◌, zero, suc, ◌+◌, ◌<◌, ℕ, List, [], ◌∷◌, ◌++◌, length, take, get_or, slice_get, Bool, true, false, cond, Contains, inl, inr, ◌⊎◌, Some, refl, sym, ap, subst, ◌∙◌, eqb, eqb-true, eq-eqb}
use Rattle.std.specs.Prelude.{not, ◌==◌}
use Rattle.std.proofs.lemmas.List.{length-take-le}
use Rattle.std.proofs.lemmas.List.Elements.{Contains-append_left, Contains-append_right, Contains-append_cases}
use Rattle.kern_model.proofs.MemberLemmas.{first_or_later, none_in_nil, here, there}
use Rattle.net_view.specs.RadioPorts.{group_in}
use Rattle.net_view.proofs.PortLemmas.{more_is}
use Rattle.net_reach.specs.Groups.{Groups, AreMembers, HasMembers, Gains, without_place}

-- ---- one item more

pub no_members : {X : Type 0} (places : List ℕ) (test : ℕ → X → Bool) → places ≡ [] → AreMembers places test []
no_members {X} places test none = record {
  all = λ place x found passes. cc found;
  only = λ place inside. absurd (none_in_nil place (subst (λ (z : List ℕ). Contains z place) none inside));
}

at_place : {X : Type 0} → (xs : List X) (x : X) (place : ℕ) (y : X) → slice_get (xs ++ x ∷ []) place ≡ Some y → (slice_get xs place ≡ Some y) ⊎ ((place ≡ length xs) × (x ≡ y))
at_place [] x zero y h = inr (refl, cc h)
at_place [] x (suc k) y h = cc h
at_place (z ∷ zs) x zero y h = inl h
at_place {X} (z ∷ zs) x (suc k) y h = elim (at_place zs x k y h) as (λ _. (slice_get (z ∷ zs) (suc k) ≡ Some y) ⊎ ((suc k ≡ length (z ∷ zs)) × (x ≡ y))) [
  | inl old ↦ inl old
  | inr new ↦ inr (ap suc new.0, new.1)
]

still_place : {X : Type 0} → (xs : List X) (x : X) (place : ℕ) (y : X) → slice_get xs place ≡ Some y → slice_get (xs ++ x ∷ []) place ≡ Some y
still_place [] x place y h = cc h
still_place (z ∷ zs) x zero y h = h
still_place (z ∷ zs) x (suc k) y h = still_place zs x k y h

last_place : {X : Type 0} → (xs : List X) (x : X) → slice_get (xs ++ x ∷ []) (length xs) ≡ Some x
last_place [] x = refl
last_place (z ∷ zs) x = last_place zs x

pub in_one : (b : Bool) (i place : ℕ) → Contains (cond b (i ∷ []) []) place → (b ≡ true) × (i ≡ place)
in_one true i place h = elim (first_or_later i [] place h) as (λ _. (true ≡ true) × (i ≡ place)) [
  | inl same ↦ (refl, same)
  | inr later ↦ absurd (none_in_nil place later)
]
in_one false i place h = absurd (none_in_nil place h)

pub of_one : (b : Bool) (i place : ℕ) → b ≡ true → i ≡ place → Contains (cond b (i ∷ []) []) place
of_one true i place h same = subst (Contains (i ∷ [])) same (here i [])
of_one false i place h same = cc h

member_more : {X : Type 0} (test : ℕ → X → Bool) (xs : List X) (x : X) (i : ℕ) (places : List ℕ) → length xs ≡ i → AreMembers places test xs → AreMembers (places ++ cond (test i x) (i ∷ []) []) test (xs ++ x ∷ [])
member_more {X} test xs x i places size before = record {
  all = λ place y found passes. elim (at_place xs x place y found) as (λ _. Contains (places ++ cond (test i x) (i ∷ []) []) place) [
    | inl old ↦ Contains-append_left places (cond (test i x) (i ∷ []) []) place (before.all place y old passes)
    | inr new ↦ Contains-append_right places (cond (test i x) (i ∷ []) []) place (of_one (test i x) i place (passes_at place y new.0 new.1 passes) (sym size ∙ sym new.0))
  ];
  only = λ place inside. elim (Contains-append_cases places (cond (test i x) (i ∷ []) []) place inside) as (λ _. (y : X) × (slice_get (xs ++ x ∷ []) place ≡ Some y) × (test place y ≡ true)) [
    | inl old ↦ let found = before.only place old in (found.0, still_place xs x place found.0 found.1, found.2)
    | inr new ↦
        let one = in_one (test i x) i place new in
        (x, subst (λ k. slice_get (xs ++ x ∷ []) k ≡ Some x) (size ∙ one.1) (last_place xs x), subst (λ k. test k x ≡ true) one.1 one.0)
  ];
}
  where
    passes_at : (place : ℕ) (y : X) → place ≡ length xs → x ≡ y → test place y ≡ true → test i x ≡ true
    passes_at place y at same passes = ap (λ k. test k x) (sym size ∙ sym at) ∙ ap (test place) same ∙ passes

pub members_more : {X : Type 0} (test : List ℕ → ℕ → X → Bool) (xs : List X) (old new : Groups) (i : ℕ) (x : X) → i < length xs → x ≡ get_or xs i x → HasMembers old test (take i xs) → Gains old new (λ q. test q i x) i
    → HasMembers new test (take (i + 1) xs)
members_more {X} test xs old new i x within is before gains q =
    let size = length-take-le i xs (omega arith) in
    subst (λ (z : List ℕ). AreMembers z (test q) (take (i + 1) xs)) (sym (gains q))
    (subst (λ (z : List X). AreMembers (group_in old q ++ cond (test q i x) (i ∷ []) []) (test q) z) (sym (more_is xs i x within is))
    (member_more (test q) (take i xs) x i (group_in old q) size (before q)))

-- ---- the same places by another test

pub same_members : {X : Type 0} (places : List ℕ) (old new : ℕ → X → Bool) (xs : List X) → ((place : ℕ) (x : X) → new place x ≡ old place x) → AreMembers places old xs → AreMembers places new xs
same_members {X} places old new xs same are = record {
  all = λ place x found passes. are.all place x found (sym (same place x) ∙ passes);
  only = λ place inside. let found = are.only place inside in (found.0, found.1, same place found.0 ∙ found.2);
}

-- ---- one place out

other_than : (place p : ℕ) → p ≢ place → (p == place) ≡ false
other_than place p apart = by (eqb p place) refl
  where
    by : (b : Bool) → eqb p place ≡ b → b ≡ false
    by true h = absurd (apart (eqb-true p place h))
    by false h = refl

pub left_in : (place p : ℕ) → p ≢ place → (places : List ℕ) → Contains places p → Contains (without_place places place) p
left_in place p apart [] inside = absurd (none_in_nil p inside)
left_in place p apart (k ∷ ks) inside = elim (first_or_later k ks p inside) as (λ _. Contains (without_place (k ∷ ks) place) p) [
  | inl same ↦
      let kept : not (k == place) ≡ true = ap (λ n. not (n == place)) same ∙ ap not (other_than place p apart) in
      subst (λ b. Contains (cond b (k ∷ without_place ks place) (without_place ks place)) p) (sym kept) (subst (Contains (k ∷ without_place ks place)) same (here k (without_place ks place)))
  | inr later ↦ behind (not (k == place)) (left_in place p apart ks later)
]
  where
    behind : (b : Bool) → Contains (without_place ks place) p → Contains (cond b (k ∷ without_place ks place) (without_place ks place)) p
    behind true h = there k (without_place ks place) p h
    behind false h = h

off_place : (k place : ℕ) → (k == place) ≡ false → k ≡ place → ⊥
off_place k place off same = let on = eq-eqb k place same in cc (on, off)

left_step : (place p k : ℕ) (ks : List ℕ) (b : Bool) → (k == place) ≡ b → (Contains (without_place ks place) p → Contains ks p × (p ≢ place)) → Contains (cond (not b) (k ∷ without_place ks place) (without_place ks place)) p
    → Contains (k ∷ ks) p × (p ≢ place)
left_step place p k ks true is rest inside = let later = rest inside in (there k ks p later.0, later.1)
left_step place p k ks false is rest inside = elim (first_or_later k (without_place ks place) p inside) as (λ _. Contains (k ∷ ks) p × (p ≢ place)) [
  | inl same ↦ (subst (Contains (k ∷ ks)) same (here k ks), λ at. off_place k place is (same ∙ at))
  | inr behind ↦ let later = rest behind in (there k ks p later.0, later.1)
]

pub left_only : (place p : ℕ) → (places : List ℕ) → Contains (without_place places place) p → Contains places p × (p ≢ place)
left_only place p [] inside = absurd (none_in_nil p inside)
left_only place p (k ∷ ks) inside = left_step place p k ks (k == place) refl (left_only place p ks) inside
