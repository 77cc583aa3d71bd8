-- Places and givers of objects, after each step.
use Rattle.std.proofs.Common.{ℕ, zero, suc, ◌≡◌, ◌+◌, ◌-◌, inl, inr, [], ◌∷◌, ◌++◌, slice_get, slice_set, Option, Some, None, true, false, Bool, cond, refl, ap, sym, ◌∙◌}
use Rattle.std.specs.Prelude.{is_some, if◌then◌else◌}
use Rattle.std.specs.Option.{option_map_or}
use Rattle.std.specs.Ordering.{eq_by_cmp}
use Rattle.kern_model.specs.declared.object.Object.{Object}
use Rattle.kern_model.specs.ObjectOrder.{object_cmp}
use Rattle.given_objects.specs.declared.gift.Gift.{Gift}
use Rattle.given_objects.specs.Gifts.{Gifts, is_of, gift_of, has_place, givers_of}
use Rattle.given_objects.specs.Changes.{empty_gift, with_place, given_once_more, given_once_less, noted, with_lost_link}
use Rattle.given_objects.proofs.ChangeLemmas.{of_itself}
use Rattle.given_objects.proofs.KeepLemmas.{place_stays, givers_stay, givers_made, by_place}

abbrev more : Gift → Gift
more g = record g { givers = g.givers + 1 }

abbrev less : Gift → Gift
less g = record g { givers = g.givers - 1 }

abbrev note : Bool → Gift → Gift
note held g = record g { held = held; loses_link = false }

-- places stay
pub give_places : (gs : Gifts) (o x : Object) → has_place (given_once_more gs o) x ≡ has_place gs x
give_places gs o x = place_stays more gs o (λ g. refl) x

pub withdraw_places : (gs : Gifts) (o x : Object) → has_place (given_once_less gs o) x ≡ has_place gs x
withdraw_places gs o x = place_stays less gs o (λ g. refl) x

pub note_places : (gs : Gifts) (o : Object) (held : Bool) (x : Object) → has_place (noted gs o held) x ≡ has_place gs x
note_places gs o held x = place_stays (note held) gs o (λ g. refl) x

-- givers
pub give_givers : (gs : Gifts) (o : Object) → has_place gs o ≡ true → givers_of (given_once_more gs o) o ≡ givers_of gs o + 1
give_givers gs o place = givers_made more gs o (λ g. refl) (λ n. n + 1) (inr place) (λ g. refl)

pub withdraw_givers : (gs : Gifts) (o : Object) → givers_of (given_once_less gs o) o ≡ givers_of gs o - 1
withdraw_givers gs o = givers_made less gs o (λ g. refl) (λ n. n - 1) (inl refl) (λ g. refl)

pub give_others : (gs : Gifts) (o x : Object) → (x ≡ o → ⊥) → givers_of (given_once_more gs o) x ≡ givers_of gs x
give_others gs o x other = givers_stay more gs o (λ g. refl) x (λ g is same. absurd (other same))

pub withdraw_others : (gs : Gifts) (o x : Object) → (x ≡ o → ⊥) → givers_of (given_once_less gs o) x ≡ givers_of gs x
withdraw_others gs o x other = givers_stay less gs o (λ g. refl) x (λ g is same. absurd (other same))

pub note_givers : (gs : Gifts) (o : Object) (held : Bool) (x : Object) → givers_of (noted gs o held) x ≡ givers_of gs x
note_givers gs o held x = givers_stay (note held) gs o (λ g. refl) x (λ g is same. refl)

-- a gift in the place of another of the same object and with as many givers
module _ {Y : Type 0} (f : Option Gift → Y) (x : Object) (alike : (g h : Gift) → h.object ≡ g.object → h.givers ≡ g.givers → f (Some h) ≡ f (Some g)) where
  found_alike : (gs : Gifts) (place : ℕ) (g h : Gift) → slice_get gs place ≡ Some g → h.object ≡ g.object → h.givers ≡ g.givers → f (gift_of (slice_set gs place h) x) ≡ f (gift_of gs x)
  found_alike [] place g h at object givers = cc at
  found_alike (y ∷ ys) zero g h at object givers =
      let same : y ≡ g = cc at in
      let one = object ∙ ap (λ (z : Gift). z.object) (sym same) in
      ap (λ o. f (cond (eq_by_cmp object_cmp x o) (Some h) (gift_of ys x))) one
      ∙ by (is_of x y) (alike y h one (givers ∙ ap (λ (z : Gift). z.givers) (sym same)))
    where
      by : (b : Bool) → f (Some h) ≡ f (Some y) → f (cond b (Some h) (gift_of ys x)) ≡ f (cond b (Some y) (gift_of ys x))
      by true is = is
      by false is = refl
  found_alike (y ∷ ys) (suc i) g h at object givers = by (is_of x y) (found_alike ys i g h at object givers)
    where
      by : (b : Bool) → f (gift_of (slice_set ys i h) x) ≡ f (gift_of ys x) → f (cond b (Some y) (gift_of (slice_set ys i h) x)) ≡ f (cond b (Some y) (gift_of ys x))
      by true rest = refl
      by false rest = rest

pub loses_link_places : (gs : Gifts) (place : ℕ) (loses_link : Bool) (x : Object) → has_place (with_lost_link gs place loses_link) x ≡ has_place gs x
loses_link_places gs place loses_link x = by_place gs place loses_link (λ xs. has_place xs x ≡ has_place gs x) refl
    (λ g at. found_alike is_some x (λ g h object givers. refl) gs place g (record g { loses_link = loses_link }) at refl refl)

pub loses_link_givers : (gs : Gifts) (place : ℕ) (loses_link : Bool) (x : Object) → givers_of (with_lost_link gs place loses_link) x ≡ givers_of gs x
loses_link_givers gs place loses_link x = by_place gs place loses_link (λ xs. givers_of xs x ≡ givers_of gs x) refl
    (λ g at. found_alike (λ r. option_map_or (λ (g : Gift). g.givers) r 0) x (λ g h object givers. givers) gs place g (record g { loses_link = loses_link }) at refl refl)

-- a place that is expected
module _ (gs : Gifts) (o : Object) where
  pub place_itself : has_place (with_place gs o) o ≡ true
  place_itself = by (has_place gs o) refl
    where
      at_end : (xs : Gifts) → has_place (xs ++ empty_gift o ∷ []) o ≡ true
      at_end [] = ap (λ b. is_some (cond b (Some (empty_gift o)) None)) (of_itself o)
      at_end (x ∷ xs) = step (is_of o x) (at_end xs)
        where
          step : (b : Bool) → has_place (xs ++ empty_gift o ∷ []) o ≡ true → is_some (cond b (Some x) (gift_of (xs ++ empty_gift o ∷ []) o)) ≡ true
          step true rest = refl
          step false rest = rest

      by : (b : Bool) → has_place gs o ≡ b → has_place (if b then gs else gs ++ empty_gift o ∷ []) o ≡ true
      by true is = is
      by false is = at_end gs

  pub place_others : (x : Object) → has_place gs x ≡ true → has_place (with_place gs o) x ≡ true
  place_others x had = by (has_place gs o)
    where
      at_end : (xs : Gifts) → has_place xs x ≡ true → has_place (xs ++ empty_gift o ∷ []) x ≡ true
      at_end [] h = cc h
      at_end (y ∷ ys) h = step (is_of x y) h (at_end ys)
        where
          step : (b : Bool) → is_some (cond b (Some y) (gift_of ys x)) ≡ true → (has_place ys x ≡ true → has_place (ys ++ empty_gift o ∷ []) x ≡ true) → is_some (cond b (Some y) (gift_of (ys ++ empty_gift o ∷ []) x)) ≡ true
          step true h rest = refl
          step false h rest = rest h

      by : (b : Bool) → has_place (if b then gs else gs ++ empty_gift o ∷ []) x ≡ true
      by true = had
      by false = at_end gs had

  pub place_givers : (x : Object) → givers_of (with_place gs o) x ≡ givers_of gs x
  place_givers x = by (has_place gs o)
    where
      at_end : (xs : Gifts) → givers_of (xs ++ empty_gift o ∷ []) x ≡ givers_of xs x
      at_end [] = none (is_of x (empty_gift o))
        where
          none : (b : Bool) → option_map_or (λ (g : Gift). g.givers) (cond b (Some (empty_gift o)) None) 0 ≡ 0
          none true = refl
          none false = refl
      at_end (y ∷ ys) = step (is_of x y) (at_end ys)
        where
          step : (b : Bool) → givers_of (ys ++ empty_gift o ∷ []) x ≡ givers_of ys x
              → option_map_or (λ (g : Gift). g.givers) (cond b (Some y) (gift_of (ys ++ empty_gift o ∷ []) x)) 0 ≡ option_map_or (λ (g : Gift). g.givers) (cond b (Some y) (gift_of ys x)) 0
          step true rest = refl
          step false rest = rest

      by : (b : Bool) → givers_of (if b then gs else gs ++ empty_gift o ∷ []) x ≡ givers_of gs x
      by true = refl
      by false = at_end gs
