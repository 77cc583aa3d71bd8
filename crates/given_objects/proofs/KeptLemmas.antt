-- Gifts that are held or given, with places for others.
use Rattle.std.proofs.Common.{ℕ, zero, suc, ◌≡◌, ◌≢◌, ◌+◌, inl, inr, List, [], ◌∷◌, ◌++◌, take, fold, filter, map, slice_get, Contains, Some, true, false, Bool, cond, refl, ap, sym, subst, ◌∙◌}
use Rattle.std.specs.Prelude.{if◌then◌else◌}
use Rattle.plane_words.specs.Distinct.{AreDistinct}
use Rattle.kern_model.specs.declared.object.Object.{Object}
use Rattle.kern_model.proofs.MemberLemmas.{here, there, first_or_later, none_in_nil, map_member, member_of_all}
use Rattle.kern_model.proofs.TestLemmas.{false_of_not}
use Rattle.given_objects.specs.declared.gift.Gift.{Gift}
use Rattle.given_objects.specs.Gifts.{Gifts, has_place}
use Rattle.given_objects.specs.Changes.{with_place, is_live, with_live}
use Rattle.given_objects.proofs.ChangeLemmas.{of_filter, place_found}
use Rattle.given_objects.proofs.FirstLemmas.{next_taken}

filter_more : (gs : Gifts) (g : Gift) → filter is_live (gs ++ g ∷ []) ≡ with_live (filter is_live gs) g
filter_more [] g = by (is_live g)
  where
    by : (b : Bool) → cond b (g ∷ []) [] ≡ [] ++ (if b then g ∷ [] else [])
    by true = refl
    by false = refl
filter_more (x ∷ xs) g = by (is_live x) (filter_more xs g)
  where
    by : (b : Bool) → filter is_live (xs ++ g ∷ []) ≡ with_live (filter is_live xs) g → cond b (x ∷ filter is_live (xs ++ g ∷ [])) (filter is_live (xs ++ g ∷ [])) ≡ with_live (cond b (x ∷ filter is_live xs) (filter is_live xs)) g
    by true rest = ap (λ (ys : Gifts). x ∷ ys) rest
    by false rest = rest

pub none_live : (gs : Gifts) → filter is_live (take 0 gs) ≡ []
none_live [] = refl
none_live (g ∷ gs) = refl

pub live_more : (gs : Gifts) (i : ℕ) (g : Gift) → slice_get gs i ≡ Some g → filter is_live (take (i + 1) gs) ≡ with_live (filter is_live (take i gs)) g
live_more gs i g at = ap (filter is_live) (next_taken gs i g at) ∙ filter_more (take i gs) g

-- what stands before a gift is of other objects
before_other : (gs : Gifts) (i : ℕ) (g x : Gift) → AreDistinct (map (λ (g : Gift). g.object) gs) → slice_get gs i ≡ Some g → Contains (take i gs) x → x.object ≡ g.object → ⊥
before_other [] i g x once at member same = cc at
before_other (y ∷ ys) zero g x once at member same = none_in_nil x member
before_other (y ∷ ys) (suc i) g x once at member same = elim (first_or_later y (take i ys) x member) as (λ _. ⊥) [
  | inl first ↦ member_of_all (λ other. other ≢ y.object) (map (λ (g : Gift). g.object) ys) g.object once.0 (map_member (λ (g : Gift). g.object) ys g (at_place ys i at)) (sym same ∙ ap (λ (g : Gift). g.object) (sym first))
  | inr later ↦ before_other ys i g x once.1 at later same
]
  where
    at_place : (zs : Gifts) (k : ℕ) → slice_get zs k ≡ Some g → Contains zs g
    at_place [] k h = cc h
    at_place (z ∷ zs) zero h = subst (Contains (z ∷ zs)) (cc h) (here z zs)
    at_place (z ∷ zs) (suc k) h = there z zs g (at_place zs k h)

pub no_place_before : (gs : Gifts) (i : ℕ) (g : Gift) → AreDistinct (map (λ (g : Gift). g.object) gs) → slice_get gs i ≡ Some g → has_place (filter is_live (take i gs)) g.object ≡ false
no_place_before gs i g once at = false_of_not (has_place (filter is_live (take i gs)) g.object) (λ is.
    let found = place_found (filter is_live (take i gs)) g.object is in
    before_other gs i g found.0 once at (of_filter is_live (take i gs) found.0 found.1.member).0 found.1.is)

-- places for one object after another
pub fold_more : (gs : Gifts) (xs : List Object) (x : Object) → fold with_place gs (xs ++ x ∷ []) ≡ with_place (fold with_place gs xs) x
fold_more gs [] x = refl
fold_more gs (y ∷ ys) x = fold_more (with_place gs y) ys x

-- whether a gift is added
pub not_live : (gs : Gifts) (g : Gift) → is_live g ≡ false → gs ≡ with_live gs g
not_live gs g off = sym (append_none gs) ∙ sym (ap (λ b. gs ++ (if b then g ∷ [] else [])) off)
  where
    append_none : (xs : Gifts) → xs ++ [] ≡ xs
    append_none [] = refl
    append_none (x ∷ xs) = ap (λ (ys : Gifts). x ∷ ys) (append_none xs)

pub is_added : (gs : Gifts) (g : Gift) → is_live g ≡ true → gs ++ g ∷ [] ≡ with_live gs g
is_added gs g on = sym (ap (λ b. gs ++ (if b then g ∷ [] else [])) on)
