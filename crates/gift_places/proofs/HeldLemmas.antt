-- Of gifts those that are held, given by nobody.
use Rattle.std.proofs.Common.{◌≡◌, ℕ, ◌+◌, [], ◌∷◌, ◌++◌, map, take, filter, slice_get, Some, true, false, Bool, cond, refl, ap, sym, ◌∙◌}
use Rattle.std.specs.Prelude.{is_some, if◌then◌else◌, ◌||◌}
use Rattle.plane_words.specs.Distinct.{AreDistinct}
use Rattle.kern_model.specs.declared.object.Object.{Object}
use Rattle.kern_model.proofs.TestLemmas.{false_of_not}
use Rattle.given_objects.specs.declared.gift.Gift.{Gift}
use Rattle.given_objects.specs.Gifts.{Gifts, is_of, gift_of, has_place, is_given}
use Rattle.given_objects.specs.Changes.{empty_gift, with_place, noted, is_live}
use Rattle.given_objects.proofs.ChangeLemmas.{of_itself}
use Rattle.given_objects.proofs.FirstLemmas.{next_taken}
use Rattle.given_objects.proofs.KeptLemmas.{no_place_before}
use Rattle.given_objects.proofs.TableLemmas.{place_new}
use Rattle.gift_places.specs.Expecting.{held_alone, all_held_alone, with_held_alone}

-- ---- one more of them

-- a gift that is held, and nothing else is told of it
abbrev just_held : Object → Gift
just_held o = record { object = o; givers = 0; held = true; loses_link = false }

noted_last : (gs : Gifts) (o : Object) → has_place gs o ≡ false → noted (gs ++ empty_gift o ∷ []) o true ≡ gs ++ just_held o ∷ []
noted_last [] o none = ap (λ b. (if b then just_held o else empty_gift o) ∷ []) (of_itself o)
noted_last (x ∷ xs) o none = by (is_of o x) none (noted_last xs o)
  where
    by : (b : Bool) → is_some (cond b (Some x) (gift_of xs o)) ≡ false → (has_place xs o ≡ false → noted (xs ++ empty_gift o ∷ []) o true ≡ xs ++ just_held o ∷ [])
        → (if b then record x { held = true; loses_link = false } else x) ∷ noted (xs ++ empty_gift o ∷ []) o true ≡ x ∷ (xs ++ just_held o ∷ [])
    by true none rest = cc none
    by false none rest = ap (λ (ys : Gifts). x ∷ ys) (rest none)

pub is_held : (gs : Gifts) (g : Gift) → has_place gs g.object ≡ false → g.held ≡ true → noted (with_place gs g.object) g.object true ≡ with_held_alone gs g
is_held gs g none on =
    ap (λ xs. noted xs g.object true) (sym (place_new gs g.object none))
    ∙ noted_last gs g.object none
    ∙ ap (λ b. gs ++ record (just_held g.object) { held = b } ∷ []) (sym on)
    ∙ sym (ap (λ b. gs ++ (if b then held_alone g ∷ [] else [])) on)

-- ---- those so far

all_more : (gs : Gifts) (g : Gift) → all_held_alone (gs ++ g ∷ []) ≡ with_held_alone (all_held_alone gs) g
all_more [] g = by g.held
  where
    by : (b : Bool) → map held_alone (cond b (g ∷ []) []) ≡ [] ++ (if b then held_alone g ∷ [] else [])
    by true = refl
    by false = refl
all_more (x ∷ xs) g = by x.held (all_more xs g)
  where
    by : (b : Bool) → all_held_alone (xs ++ g ∷ []) ≡ with_held_alone (all_held_alone xs) g
        → map held_alone (cond b (x ∷ filter (λ (g : Gift). g.held) (xs ++ g ∷ [])) (filter (λ (g : Gift). g.held) (xs ++ g ∷ [])))
        ≡ with_held_alone (map held_alone (cond b (x ∷ filter (λ (g : Gift). g.held) xs) (filter (λ (g : Gift). g.held) xs))) g
    by true rest = ap (λ (ys : Gifts). held_alone x ∷ ys) rest
    by false rest = rest

pub none_held : (gs : Gifts) → all_held_alone (take 0 gs) ≡ []
none_held [] = refl
none_held (g ∷ gs) = refl

pub held_more : (gs : Gifts) (i : ℕ) (g : Gift) → slice_get gs i ≡ Some g → all_held_alone (take (i + 1) gs) ≡ with_held_alone (all_held_alone (take i gs)) g
held_more gs i g at = ap all_held_alone (next_taken gs i g at) ∙ all_more (take i gs) g

-- what has a place among them is live among all
live_place : (gs : Gifts) (o : Object) → has_place (all_held_alone gs) o ≡ true → has_place (filter is_live gs) o ≡ true
live_place [] o there = there
live_place (x ∷ xs) o there = by x.held (is_given x) there (live_place xs o)
  where
    held_first : (b : Bool) → is_some (cond b (Some (held_alone x)) (gift_of (all_held_alone xs) o)) ≡ true → (has_place (all_held_alone xs) o ≡ true → has_place (filter is_live xs) o ≡ true)
        → is_some (cond b (Some x) (gift_of (filter is_live xs) o)) ≡ true
    held_first true there rest = refl
    held_first false there rest = rest there

    live_first : (b : Bool) → has_place (filter is_live xs) o ≡ true → is_some (cond b (Some x) (gift_of (filter is_live xs) o)) ≡ true
    live_first true rest = refl
    live_first false rest = rest

    by : (held given : Bool) → has_place (map held_alone (cond held (x ∷ filter (λ (g : Gift). g.held) xs) (filter (λ (g : Gift). g.held) xs))) o ≡ true
        → (has_place (all_held_alone xs) o ≡ true → has_place (filter is_live xs) o ≡ true)
        → has_place (cond (held || given) (x ∷ filter is_live xs) (filter is_live xs)) o ≡ true
    by true given there rest = held_first (is_of o x) there rest
    by false true there rest = live_first (is_of o x) (rest there)
    by false false there rest = rest there

pub no_held_before : (gs : Gifts) (i : ℕ) (g : Gift) → AreDistinct (map (λ (g : Gift). g.object) gs) → slice_get gs i ≡ Some g → has_place (all_held_alone (take i gs)) g.object ≡ false
no_held_before gs i g once at = false_of_not (has_place (all_held_alone (take i gs)) g.object) (λ is.
    let live = live_place (take i gs) g.object is in
    let none = no_place_before gs i g once at in
    cc (live, none))
