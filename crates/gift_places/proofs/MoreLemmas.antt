-- Places for some objects, and then for others.
use Rattle.std.proofs.Common.{◌≡◌, ℕ, suc, ◌+◌, ◌<◌, ◌≤◌, inl, inr, List, [], ◌∷◌, ◌++◌, length, map, drop, drop-cons, drop_of_length-le, filter_map, get_or, true, Option, Some, None, option_to_list, Result, Ok, Err, OnOk, OnErr, refl, sym}
use Rattle.std.proofs.Common.{ap, subst, ◌∙◌, arith}
use Rattle.std.specs.List.{cons_option}
use Rattle.std.proofs.lemmas.List.Elements.{Contains-append_cases}
use Rattle.std.proofs.lemmas.List.Sums.{fold-append}
use Rattle.kern_model.specs.declared.object.Object.{Object}
use Rattle.kern_model.proofs.MemberLemmas.{first_or_later, none_in_nil}
use Rattle.kern_calls.specs.Upper.{is_upper}
use Rattle.given_objects.specs.Gifts.{Gifts}
use Rattle.given_objects.specs.Changes.{with_place}
use Rattle.gift_places.specs.Expecting.{with_places, HasMorePlaces}

-- ---- places for none, for one, and for two lists

pub none_more : (before now : Gifts) → now ≡ before → HasMorePlaces before now
none_more before now is = record {
  objects = [];
  upper = λ o member. absurd (none_in_nil o member);
  places = is;
}

pub one_more : (before now : Gifts) (o : Object) → is_upper o ≡ true → now ≡ with_place before o → HasMorePlaces before now
one_more before now o upper is = record {
  objects = o ∷ [];
  upper = λ x member. elim (first_or_later o [] x member) as (λ _. is_upper x ≡ true) [
    | inl first ↦ subst (λ z. is_upper z ≡ true) first upper
    | inr later ↦ absurd (none_in_nil x later)
  ];
  places = is;
}

pub one_or_none : {X E : Type 0} (r : Result X E) (before now : Gifts) (o : Object) → is_upper o ≡ true → OnOk r (now ≡ with_place before o) → OnErr r (now ≡ before) → HasMorePlaces before now
one_or_none (Ok x) before now o upper ok err = one_more before now o upper ok
one_or_none (Err e) before now o upper ok err = none_more before now err

pub both_more : (before between now : Gifts) → HasMorePlaces before between → HasMorePlaces between now → HasMorePlaces before now
both_more before between now one two = record {
  objects = one.objects ++ two.objects;
  upper = λ o member. elim (Contains-append_cases one.objects two.objects o member) as (λ _. is_upper o ≡ true) [
    | inl front ↦ one.upper o front
    | inr back ↦ two.upper o back
  ];
  places =
      two.places
      ∙ ap (λ gs. with_places gs two.objects) one.places
      ∙ sym (fold-append with_place before one.objects two.objects);
}

pub both_places : (before between now : Gifts) (xs ys one two : List Object) → one ≡ xs → two ≡ ys → between ≡ with_places before one → now ≡ with_places between two → now ≡ with_places before (xs ++ ys)
both_places before between now xs ys one two p q made then =
    then
    ∙ ap (with_places between) q
    ∙ ap (λ gs. with_places gs ys) (made ∙ ap (with_places before) p)
    ∙ sym (fold-append with_place before xs ys)

-- ---- a list, part by part

-- what is left of a list: places for it are all that lacks, and there are more places than at the start
pub record IsLeft (start now : Gifts) (all rest : List Object) : Type 0 where
  pub same : with_places now rest ≡ with_places start all
  pub more : HasMorePlaces start now

pub all_left : (gs : Gifts) (all : List Object) → IsLeft gs gs all all
all_left gs all = record { same = refl; more = none_more gs gs refl }

part_done : (start now new : Gifts) (all rest part others : List Object) → rest ≡ part ++ others → IsLeft start now all rest → new ≡ with_places now part → HasMorePlaces now new → IsLeft start new all others
part_done start now new all rest part others is left made more = record {
  same =
      ap (λ gs. with_places gs others) made
      ∙ sym (fold-append with_place now part others)
      ∙ ap (with_places now) (sym is)
      ∙ left.same;
  more = both_more start now new left.more more;
}

pub item_done : {X : Type 0} (f : X → Object) (start now new : Gifts) (all : List Object) (xs : List X) (i : ℕ) (d : X) (o : Object) → i < length xs → o ≡ f (get_or xs i d) → IsLeft start now all (map f (drop i xs)) → new ≡ with_place now o
    → HasMorePlaces now new → IsLeft start new all (map f (drop (i + 1) xs))
item_done f start now new all xs i d o within is left made more =
    let next : suc i ≡ i + 1 = omega arith in
    let first : map f (drop i xs) ≡ (o ∷ []) ++ map f (drop (i + 1) xs) =
    ap (map f) (drop-cons xs i d within)
    ∙ ap (λ k. f (get_or xs i d) ∷ map f (drop k xs)) next
    ∙ ap (λ (y : Object). y ∷ map f (drop (i + 1) xs)) (sym is) in
    part_done start now new all (map f (drop i xs)) (o ∷ []) (map f (drop (i + 1) xs)) first left made more

at_place : {X : Type 0} (f : X → Object) (o : Option X) (xs : List X) → map f (cons_option o xs) ≡ map f (option_to_list o) ++ map f xs
at_place f None xs = refl
at_place f (Some x) xs = refl

pub place_done : {X : Type 0} (f : X → Object) (at : ℕ → Option X) (start now new : Gifts) (all : List Object) (places : List ℕ) (i : ℕ) → i < length places → IsLeft start now all (map f (filter_map at (drop i places))) → new
    ≡ with_places now (map f (option_to_list (at (get_or places i 0)))) → HasMorePlaces now new → IsLeft start new all (map f (filter_map at (drop (i + 1) places)))
place_done f at start now new all places i within left made more =
    let next : suc i ≡ i + 1 = omega arith in
    let first : map f (filter_map at (drop i places)) ≡ map f (option_to_list (at (get_or places i 0))) ++ map f (filter_map at (drop (i + 1) places)) =
    ap (λ (z : List ℕ). map f (filter_map at z)) (drop-cons places i 0 within ∙ ap (λ k. get_or places i 0 ∷ drop k places) next)
    ∙ at_place f (at (get_or places i 0)) (filter_map at (drop (i + 1) places)) in
    part_done start now new all (map f (filter_map at (drop i places))) (map f (option_to_list (at (get_or places i 0)))) (map f (filter_map at (drop (i + 1) places))) first left made more

pub all_done : {X : Type 0} (made : List X → List Object) (start now : Gifts) (all : List Object) (xs : List X) (i : ℕ) → made [] ≡ [] → length xs ≤ i → IsLeft start now all (made (drop i xs)) → now ≡ with_places start all
all_done made start now all xs i nothing past left =
    ap (with_places now) (sym (ap made (drop_of_length-le xs past) ∙ nothing)) ∙ left.same
