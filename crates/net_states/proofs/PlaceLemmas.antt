-- Lists in which one item becomes another, and places among places.
use Rattle.std.proofs.Common.{arith, inl, inr, ℕ, zero, suc, ◌≡◌, ◌⊎◌, ◌<◌, ◌+◌, List, [], ◌∷◌, length, get_or, take, drop, Bool, true, false, Contains, Some, add-one, refl, ap, sym, subst, ◌∙◌}
use Rattle.std.specs.Prelude.{◌||◌, ◌==◌, slice_get, slice_set}
use Rattle.std.proofs.lemmas.Bool.Decides.{Decides-eqb}
use Rattle.kern_model.proofs.MemberLemmas.{here, there as later}
use Rattle.kern_model.proofs.TestLemmas.{of_any, false_of_not}
use Rattle.net_rules.proofs.MoveLemmas.{some_is}
use Rattle.asked_places.specs.Touched.{has}

module _ {X : Type 0} where
  -- an item is the one that was set, or stands at another place as before
  pub get_of_set : (xs : List X) (place at : ℕ) (new x : X) → slice_get (slice_set xs place new) at ≡ Some x → ((at ≡ place) × (x ≡ new)) ⊎ ((at ≡ place → ⊥) × (slice_get xs at ≡ Some x))
  get_of_set [] place at new x is = cc is
  get_of_set (y ∷ ys) zero zero new x is = inl (refl, sym (some_is new x is))
  get_of_set (y ∷ ys) zero (suc at) new x is = inr ((λ same. omega (arith, same)), is)
  get_of_set (y ∷ ys) (suc place) zero new x is = inr ((λ same. omega (arith, same)), is)
  get_of_set (y ∷ ys) (suc place) (suc at) new x is =
      elim (get_of_set ys place at new x is) as (λ _. ((suc at ≡ suc place) × (x ≡ new)) ⊎ ((suc at ≡ suc place → ⊥) × (slice_get (y ∷ ys) (suc at) ≡ Some x))) [
        | inl it ↦ inl (ap suc it.0, it.1)
        | inr other ↦ inr ((λ same. other.0 (omega (arith, same))), other.1)
      ]

  pub at_within : (xs : List X) (n : ℕ) → n < length xs → (x : X) × (slice_get xs n ≡ Some x)
  at_within [] n within = absurd (omega (arith, within))
  at_within (x ∷ xs) zero within = (x, refl)
  at_within (x ∷ xs) (suc n) within = at_within xs n (omega (arith, within))

  -- what was read at a place stands there
  pub read_is : (xs : List X) (n : ℕ) (x : X) → n < length xs → x ≡ get_or xs n x → slice_get xs n ≡ Some x
  read_is [] n x within is = absurd (omega (arith, within))
  read_is (y ∷ ys) zero x within is = ap (λ z. Some z) (sym is)
  read_is (y ∷ ys) (suc n) x within is = read_is ys n x (omega (arith, within)) is

  -- what was read of the same list is what stands there
  pub read_same : (xs seen : List X) (n : ℕ) (x y : X) → seen ≡ xs → n < length xs → x ≡ get_or seen n x → slice_get xs n ≡ Some y → x ≡ y
  read_same xs seen n x y all within is there = some_is x y (sym (read_is xs n x within (subst (λ (zs : List X). x ≡ get_or zs n x) all is)) ∙ there)

  pub member_at : (xs : List X) (n : ℕ) (x : X) → slice_get xs n ≡ Some x → Contains xs x
  member_at [] n x there = cc there
  member_at (y ∷ ys) zero x there = subst (Contains (y ∷ ys)) (some_is y x there) (here y ys)
  member_at (y ∷ ys) (suc n) x there = later y ys x (member_at ys n x there)

  pub within_of : (xs : List X) (n : ℕ) (x : X) → slice_get xs n ≡ Some x → n < length xs
  within_of [] n x at = cc at
  within_of (y ∷ ys) zero x at = omega arith
  within_of (y ∷ ys) (suc n) x at = let rest : n < length ys = within_of ys n x at in omega (arith, rest)

  -- what is there is set again
  pub set_same : (xs : List X) (place : ℕ) (x : X) → slice_get xs place ≡ Some x → slice_set xs place x ≡ xs
  set_same [] place x at = refl
  set_same (y ∷ ys) zero x at = ap (λ z. z ∷ ys) (sym (some_is y x at))
  set_same (y ∷ ys) (suc place) x at = ap (λ zs. y ∷ zs) (set_same ys place x at)

-- the number at an index
pub at_index : (ns : List ℕ) (n : ℕ) → n < length ns → slice_get ns n ≡ Some (get_or ns n 0)
at_index [] n within = absurd (omega (arith, within))
at_index (k ∷ ks) zero within = refl
at_index (k ∷ ks) (suc n) within = at_index ks n (omega (arith, within))

-- a member is among the places
pub has_member : (places : List ℕ) (place : ℕ) → Contains places place → has places place ≡ true
has_member places place member = of_any (λ other. place == other) places place member ((Decides-eqb place place).1 refl)

pub is_not : (a b : ℕ) → (a ≡ b → ⊥) → (a == b) ≡ false
is_not a b apart = false_of_not (a == b) (λ same. apart ((Decides-eqb a b).0 same))

none_more : (b : Bool) → (b || false) ≡ b
none_more true = refl
none_more false = refl

group : (a b c : Bool) → (a || (b || c)) ≡ ((a || b) || c)
group true b c = refl
group false b c = refl

taken : (places : List ℕ) (n place q : ℕ) → slice_get places n ≡ Some place → has (take (suc n) places) q ≡ (has (take n places) q || (q == place))
taken [] n place q is = cc is
taken (p ∷ ps) zero place q is = none_more (q == p) ∙ ap (λ k. q == k) (some_is p place is)
taken (p ∷ ps) (suc n) place q is = ap (λ b. (q == p) || b) (taken ps n place q is) ∙ group (q == p) (has (take n ps) q) (q == place)

-- one more of the places is taken
pub has_taken : (places : List ℕ) (n place q : ℕ) → slice_get places n ≡ Some place → has (take (n + 1) places) q ≡ (has (take n places) q || (q == place))
has_taken places n place q is = rw add-one (taken places n place q is)

left : (places : List ℕ) (n place : ℕ) → slice_get places n ≡ Some place → drop n places ≡ place ∷ drop (suc n) places
left [] n place is = cc is
left (p ∷ ps) zero place is = ap (λ q. q ∷ ps) (some_is p place is)
left (p ∷ ps) (suc n) place is = left ps n place is

-- the places that are left begin with the next one
pub left_is : (places : List ℕ) (n place : ℕ) → slice_get places n ≡ Some place → drop n places ≡ place ∷ drop (n + 1) places
left_is places n place is = rw add-one (left places n place is)
