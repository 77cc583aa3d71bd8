-- Rising places as the places of a whole list that are among them.
use Rattle.std.proofs.Common.{arith, inl, inr, ℕ, zero, suc, ◌≡◌, ◌≤◌, ◌<◌, ◌+◌, List, [], ◌∷◌, ◌++◌, length, Bool, true, false, cond, Contains, Some, refl, ap, subst, ◌∙◌}
use Rattle.std.specs.Prelude.{filter, ◌||◌, ◌==◌, slice_get}
use Rattle.std.specs.List.{flat_map, zip}
use Rattle.std.proofs.lemmas.Bool.Decides.{Decides-eqb}
use Rattle.kern_model.proofs.MemberLemmas.{first_or_later, none_in_nil}
use Rattle.kern_model.proofs.TestLemmas.{false_of_not}
use Rattle.net_rules.specs.Numbers.{AreRising}
use Rattle.net_rules.proofs.AskedLemmas.{filter_alike}
use Rattle.asked_places.specs.Touched.{has}

-- so many numbers from one on
abbrev pub range : ℕ → ℕ → List ℕ
range from zero = []
range from (suc n) = from ∷ range (suc from) n

range_above : (from n i : ℕ) → Contains (range from n) i → from ≤ i
range_above from zero i member = absurd (none_in_nil i member)
range_above from (suc n) i member = elim (first_or_later from (range (suc from) n) i member) as (λ _. from ≤ i) [
  | inl same ↦ subst (λ k. from ≤ k) same (omega arith)
  | inr later ↦ let above = range_above (suc from) n i later in omega (arith, above)
]

pub length_range : (from n : ℕ) → length (range from n) ≡ n
length_range from zero = refl
length_range from (suc n) = ap suc (length_range (suc from) n)

pub range_at : (from n i : ℕ) (k : ℕ) → slice_get (range from n) i ≡ Some k → k ≡ from + i
range_at from zero i k at = cc at
range_at from (suc n) zero k at = let same : from ≡ k = cc at in omega (arith, same)
range_at from (suc n) (suc i) k at = let later : k ≡ suc from + i = range_at (suc from) n i k at in omega (arith, later)

apart : (a b : ℕ) → (a ≡ b → ⊥) → (a == b) ≡ false
apart a b other = false_of_not (a == b) (λ h. other ((Decides-eqb a b).0 h))

none_has : (least bound : ℕ) (places : List ℕ) (i : ℕ) → AreRising least bound places → i < least → has places i ≡ false
none_has least bound [] i rising below = refl
none_has least bound (p ∷ ps) i rising below =
    let from = rising.0 in
    ap (λ b. b || has ps i) (apart i p (λ same. absurd (omega (arith, from, below, same))))
    ∙ none_has (p + 1) bound ps i rising.2 (omega (arith, from, below))

pub rising_range : (from n : ℕ) (places : List ℕ) → AreRising from (from + n) places → filter (has places) (range from n) ≡ places
rising_range from zero [] rising = refl
rising_range from zero (p ∷ ps) rising = let low = rising.0 in let high = rising.1 in absurd (omega (arith, low, high))
rising_range from (suc n) [] rising = rising_range (suc from) n [] tt
rising_range from (suc n) (p ∷ ps) rising = by (from == p) refl (λ others. rising_range (suc from) n ps others) (λ others. rising_range (suc from) n (p ∷ ps) others)
  where
    bound : from + suc n ≡ suc from + n
    bound = omega arith

    low : from ≤ p
    low = rising.0

    high : p < from + suc n
    high = rising.1

    by : (b : Bool) → (from == p) ≡ b → (AreRising (suc from) (suc from + n) ps → filter (has ps) (range (suc from) n) ≡ ps) → (AreRising (suc from) (suc from + n) (p ∷ ps) → filter (has (p ∷ ps)) (range (suc from) n) ≡ p ∷ ps)
        → cond (b || has ps from) (from ∷ filter (has (p ∷ ps)) (range (suc from) n)) (filter (has (p ∷ ps)) (range (suc from) n)) ≡ p ∷ ps
    by true is shorter same =
        let here : from ≡ p = (Decides-eqb from p).0 is in
        let next : p + 1 ≡ suc from = omega (arith, here) in
        let rest : AreRising (suc from) (suc from + n) ps = subst (λ k. AreRising k (suc from + n) ps) next (subst (λ b. AreRising (p + 1) b ps) bound rising.2) in
        ap (λ k. k ∷ filter (has (p ∷ ps)) (range (suc from) n)) here
        ∙ ap (λ ks. p ∷ ks)
        (filter_alike (has (p ∷ ps)) (has ps) (range (suc from) n) (λ i member. let above = range_above (suc from) n i member in ap (λ b. b || has ps i) (apart i p (λ eq. absurd (omega (arith, above, here, eq)))))
        ∙ shorter rest)
    by false is shorter same =
        let other : from ≡ p → ⊥ = λ eq. let yes = (Decides-eqb from p).1 eq in cc (is, yes) in
        let beyond : suc from ≤ p = less from p low other in
        let none : has ps from ≡ false = none_has (p + 1) (from + suc n) ps from rising.2 (omega (arith, low)) in
        ap (λ b. cond b (from ∷ filter (has (p ∷ ps)) (range (suc from) n)) (filter (has (p ∷ ps)) (range (suc from) n))) none
        ∙ same (beyond, subst (λ b. p < b) bound high, subst (λ b. AreRising (p + 1) b ps) bound rising.2)
      where
        less : (a b : ℕ) → a ≤ b → (a ≡ b → ⊥) → suc a ≤ b
        less a b h ne = grind (arith, h, ne)

-- what is given at the places of a whole list
pub over_range : {X Y : Type 0} (e : ℕ → List Y) (xs : List X) (from : ℕ) → flat_map (λ (p : X × ℕ). e p.1) (zip xs (range from (length xs))) ≡ flat_map e (range from (length xs))
over_range e [] from = refl
over_range e (x ∷ xs) from = ap (λ ys. e from ++ ys) (over_range e xs (suc from))

pub only_where : {X Y : Type 0} (p : X → Bool) (e : X → List Y) (xs : List X) → flat_map (λ x. cond (p x) (e x) []) xs ≡ flat_map e (filter p xs)
only_where p e [] = refl
only_where {X} {Y} p e (x ∷ xs) = by (p x) (only_where p e xs)
  where
    by : (b : Bool) → flat_map (λ y. cond (p y) (e y) []) xs ≡ flat_map e (filter p xs) → cond b (e x) [] ++ flat_map (λ y. cond (p y) (e y) []) xs ≡ flat_map e (cond b (x ∷ filter p xs) (filter p xs))
    by true rest = ap (λ ys. e x ++ ys) rest
    by false rest = rest
