-- Lists of objects that are given once more or once less, part by part.
use Rattle.std.proofs.Common.{◌≡◌, ℕ, suc, ◌+◌, ◌<◌, ◌≤◌, ◌^◌, inl, inr, List, [], ◌∷◌, ◌++◌, length, length-append, map, drop, drop-cons, drop_of_length-le, filter, fold, get_or, Bool, true, false, cond, Contains, Option, Some, None}
use Rattle.std.proofs.Common.{option_to_list, filter_map, refl, sym, ap, subst, ◌∙◌, arith}
use Rattle.std.specs.Ordering.{eq_by_cmp}
use Rattle.std.specs.List.{cons_option}
use Rattle.std.proofs.lemmas.List.Elements.{Contains-append_left, filter-append}
use Rattle.std.proofs.lemmas.List.Sums.{fold-append}
use Rattle.kern_model.specs.declared.object.Object.{Object}
use Rattle.kern_model.specs.ObjectOrder.{object_cmp}
use Rattle.kern_model.proofs.MemberLemmas.{here, there}
use Rattle.kern_model.proofs.SetLemmas.{same_object, same_or_other}
use Rattle.net_rows.specs.declared.rows.InterfaceRow.{InterfaceRow}
use Rattle.net_rules.specs.declared.answer.Answer.{Answer}
use Rattle.net_rules.specs.Facts.{Facts}
use Rattle.net_rules.specs.Rows.{is_static}
use Rattle.net_rules.specs.Interfaces.{answer_of}
use Rattle.net_rules.specs.Want.{of_options, of_answer}
use Rattle.given_objects.specs.Gifts.{Gifts, has_place, givers_of}
use Rattle.given_objects.specs.Changes.{given_once_more, given_once_less}
use Rattle.given_objects.proofs.ChangeLemmas.{of_itself}
use Rattle.given_objects.proofs.PlaceLemmas.{give_places, give_givers, give_others, withdraw_givers, withdraw_others}
use Rattle.net_looks.specs.declared.giving.Change.{Change}
use Rattle.net_looks.specs.declared.giving.Change.TheVariants.{More, Less}
use Rattle.net_looks.specs.Giving.{times_in, CanGive, CanWithdraw, changed_once, Can, own_given}

-- ---- how often an object stands in a list

times_of_two : (o : Object) (xs ys : List Object) → times_in o (xs ++ ys) ≡ times_in o xs + times_in o ys
times_of_two o xs ys =
    let test : Object → Bool = eq_by_cmp object_cmp o in
    ap length (filter-append test xs ys) ∙ length-append (filter test xs) (filter test ys)

-- the first of a list counts for itself, and for no other
one_first : (o : Object) (xs : List Object) → times_in o (o ∷ xs) ≡ suc (times_in o xs)
one_first o xs = ap (λ (b : Bool). length (cond b (o ∷ filter (eq_by_cmp object_cmp o) xs) (filter (eq_by_cmp object_cmp o) xs))) (of_itself o)

pub none_first : (o x : Object) (xs : List Object) → (o ≡ x → ⊥) → times_in o (x ∷ xs) ≡ times_in o xs
none_first o x xs other = by (eq_by_cmp object_cmp o x) refl
  where
    by : (b : Bool) → eq_by_cmp object_cmp o x ≡ b → times_in o (x ∷ xs) ≡ times_in o xs
    by true is = absurd (other (same_object o x is))
    by false is = ap (λ (b : Bool). length (cond b (x ∷ filter (eq_by_cmp object_cmp o) xs) (filter (eq_by_cmp object_cmp o) xs))) is

-- ---- a list that can be given is given one after the other

front_of : (change : Change) (gs : Gifts) (xs ys : List Object) → Can change gs (xs ++ ys) → Can change gs xs
front_of More gs xs ys can = record {
  places = λ o member. can.places o (Contains-append_left xs ys o member);
  few = λ o member. let few = can.few o (Contains-append_left xs ys o member) in omega (arith, few, times_of_two o xs ys);
}
front_of Less gs xs ys can = λ o. omega (arith, can o, times_of_two o xs ys)

others_of : (change : Change) (gs : Gifts) (o : Object) (xs : List Object) → Can change gs (o ∷ xs) → Can change (changed_once change gs o) xs
others_of More gs o xs can = record {
  places = λ x member. give_places gs o x ∙ can.places x (there o xs x member);
  few = λ x member. elim (same_or_other x o) as (λ _. givers_of (given_once_more gs o) x + times_in x xs ≤ 2 ^ 62) [
    | inl same ↦
        let few = can.few o (here o xs) in
        let more = give_givers gs o (can.places o (here o xs)) in
        subst (λ z. givers_of (given_once_more gs o) z + times_in z xs ≤ 2 ^ 62) (sym same) (omega (arith, few, more, one_first o xs))
    | inr other ↦
        let few = can.few x (there o xs x member) in
        omega (arith, few, give_others gs o x other, none_first x o xs other)
  ];
}
others_of Less gs o xs can = λ x. elim (same_or_other x o) as (λ _. times_in x xs ≤ givers_of (given_once_less gs o) x) [
  | inl same ↦ subst (λ z. times_in z xs ≤ givers_of (given_once_less gs o) z) (sym same) (omega (arith, can o, withdraw_givers gs o, one_first o xs))
  | inr other ↦ omega (arith, can x, withdraw_others gs o x other, none_first x o xs other)
]

back_of : (change : Change) (gs : Gifts) (xs ys : List Object) → Can change gs (xs ++ ys) → Can change (fold (changed_once change) gs xs) ys
back_of change gs [] ys can = can
back_of change gs (x ∷ xs) ys can = back_of change (changed_once change gs x) xs ys (others_of change gs x (xs ++ ys) can)

-- what is left of a list: it can be given, and with it all is given
pub record IsLeft (change : Change) (start now : Gifts) (all rest : List Object) : Type 0 where
  pub same : fold (changed_once change) now rest ≡ fold (changed_once change) start all
  pub can : Can change now rest

pub all_left : (change : Change) (gs : Gifts) (all : List Object) → Can change gs all → IsLeft change gs gs all all
all_left change gs all can = record { same = refl; can = can }

pub part_can : (change : Change) (start now : Gifts) (all rest part others : List Object) → IsLeft change start now all rest → rest ≡ part ++ others → Can change now part
part_can change start now all rest part others left is = front_of change now part others (subst (Can change now) is left.can)

pub part_done : (change : Change) (start now new : Gifts) (all rest part others : List Object) → IsLeft change start now all rest → rest ≡ part ++ others → new ≡ fold (changed_once change) now part → IsLeft change start new all others
part_done change start now new all rest part others left is made = record {
  same =
      ap (λ gs. fold (changed_once change) gs others) made
      ∙ sym (fold-append (changed_once change) now part others)
      ∙ ap (fold (changed_once change) now) (sym is)
      ∙ left.same;
  can = subst (λ gs. Can change gs others) (sym made) (back_of change now part others (subst (Can change now) is left.can));
}

-- ---- one item after the other

item_first : {X : Type 0} (f : X → Object) (xs : List X) (i : ℕ) (d : X) (o : Object) → i < length xs → o ≡ f (get_or xs i d) → map f (drop i xs) ≡ (o ∷ []) ++ map f (drop (i + 1) xs)
item_first {X} f xs i d o within is =
    let next : suc i ≡ i + 1 = omega arith in
    ap (map f) (drop-cons xs i d within)
    ∙ ap (λ k. f (get_or xs i d) ∷ map f (drop k xs)) next
    ∙ ap (λ (y : Object). y ∷ map f (drop (i + 1) xs)) (sym is)

pub item_can : {X : Type 0} (f : X → Object) (change : Change) (start now : Gifts) (all : List Object) (xs : List X) (i : ℕ) (d : X) (o : Object) → i < length xs → o ≡ f (get_or xs i d) → IsLeft change start now all (map f (drop i xs))
    → Can change now (o ∷ [])
item_can f change start now all xs i d o within is left =
    part_can change start now all (map f (drop i xs)) (o ∷ []) (map f (drop (i + 1) xs)) left (item_first f xs i d o within is)

pub item_done : {X : Type 0} (f : X → Object) (change : Change) (start now new : Gifts) (all : List Object) (xs : List X) (i : ℕ) (d : X) (o : Object) → i < length xs → o ≡ f (get_or xs i d) → IsLeft change start now all (map f (drop i xs))
    → new ≡ changed_once change now o → IsLeft change start new all (map f (drop (i + 1) xs))
item_done f change start now new all xs i d o within is left made =
    part_done change start now new all (map f (drop i xs)) (o ∷ []) (map f (drop (i + 1) xs)) left (item_first f xs i d o within is) made

pub all_done : {X : Type 0} (made : List X → List Object) (change : Change) (start now : Gifts) (all : List Object) (xs : List X) (i : ℕ) → made [] ≡ [] → length xs ≤ i → IsLeft change start now all (made (drop i xs)) → now
    ≡ fold (changed_once change) start all
all_done made change start now all xs i nothing past left =
    ap (fold (changed_once change) now) (sym (ap made (drop_of_length-le xs past) ∙ nothing)) ∙ left.same

-- ---- what is at places

at_place : {X : Type 0} (f : X → Object) (o : Option X) (xs : List X) → map f (cons_option o xs) ≡ map f (option_to_list o) ++ map f xs
at_place f None xs = refl
at_place f (Some x) xs = refl

place_first : {X : Type 0} (f : X → Object) (at : ℕ → Option X) (places : List ℕ) (i : ℕ) → i < length places → map f (filter_map at (drop i places)) ≡ map f (option_to_list (at (get_or places i 0)))
    ++ map f (filter_map at (drop (i + 1) places))
place_first f at places i within =
    let next : suc i ≡ i + 1 = omega arith in
    ap (λ (z : List ℕ). map f (filter_map at z)) (drop-cons places i 0 within ∙ ap (λ k. get_or places i 0 ∷ drop k places) next)
    ∙ at_place f (at (get_or places i 0)) (filter_map at (drop (i + 1) places))

pub place_can : {X : Type 0} (f : X → Object) (at : ℕ → Option X) (change : Change) (start now : Gifts) (all : List Object) (places : List ℕ) (i : ℕ) → i < length places → IsLeft change start now all (map f (filter_map at (drop i places)))
    → Can change now (map f (option_to_list (at (get_or places i 0))))
place_can f at change start now all places i within left =
    part_can change start now all (map f (filter_map at (drop i places))) (map f (option_to_list (at (get_or places i 0)))) (map f (filter_map at (drop (i + 1) places))) left (place_first f at places i within)

pub place_done : {X : Type 0} (f : X → Object) (at : ℕ → Option X) (change : Change) (start now new : Gifts) (all : List Object) (places : List ℕ) (i : ℕ) → i < length places
    → IsLeft change start now all (map f (filter_map at (drop i places))) → new ≡ fold (changed_once change) now (map f (option_to_list (at (get_or places i 0)))) → IsLeft change start new all (map f (filter_map at (drop (i + 1) places)))
place_done f at change start now new all places i within left made =
    part_done change start now new all (map f (filter_map at (drop i places))) (map f (option_to_list (at (get_or places i 0)))) (map f (filter_map at (drop (i + 1) places))) left (place_first f at places i within) made

-- ---- two lists, one after the other

pub first_can : (change : Change) (gs : Gifts) (xs ys one : List Object) → one ≡ xs → Can change gs (xs ++ ys) → Can change gs one
first_can change gs xs ys one p can = subst (Can change gs) (sym p) (front_of change gs xs ys can)

pub second_can : (change : Change) (gs mid : Gifts) (xs ys one two : List Object) → one ≡ xs → two ≡ ys → mid ≡ fold (changed_once change) gs one → Can change gs (xs ++ ys) → Can change mid two
second_can change gs mid xs ys one two p q made can =
    let is : mid ≡ fold (changed_once change) gs xs = made ∙ ap (fold (changed_once change) gs) p in
    subst (λ z. Can change z two) (sym is) (subst (Can change (fold (changed_once change) gs xs)) (sym q) (back_of change gs xs ys can))

pub two_done : (change : Change) (gs mid new : Gifts) (xs ys one two : List Object) → one ≡ xs → two ≡ ys → mid ≡ fold (changed_once change) gs one → new ≡ fold (changed_once change) mid two → new ≡ fold (changed_once change) gs (xs ++ ys)
two_done change gs mid new xs ys one two p q made then =
    let is : mid ≡ fold (changed_once change) gs xs = made ∙ ap (fold (changed_once change) gs) p in
    then
    ∙ ap (fold (changed_once change) mid) q
    ∙ ap (λ z. fold (changed_once change) z ys) is
    ∙ sym (fold-append (changed_once change) gs xs ys)

-- ---- what a static interface gives, and what another

pub own_static : (facts : Facts) (row : InterfaceRow) (dev : List ℕ) (b : Bool) → b ≡ is_static row.proto → b ≡ true → own_given facts row dev ≡ of_options row dev
own_static facts row dev b is holds = ap (λ (c : Bool). cond c (of_options row dev) (of_answer dev (answer_of facts row))) (sym is ∙ holds)

pub own_answered : (facts : Facts) (row : InterfaceRow) (dev : List ℕ) (b : Bool) (answer : Option Answer) → b ≡ is_static row.proto → b ≡ false → answer ≡ answer_of facts row → own_given facts row dev ≡ of_answer dev answer
own_answered facts row dev b answer is fails answers =
    ap (λ (c : Bool). cond c (of_options row dev) (of_answer dev (answer_of facts row))) (sym is ∙ fails)
    ∙ ap (of_answer dev) (sym answers)

-- ---- what may be given and withdrawn

at_most : (o : Object) (xs : List Object) → times_in o xs ≤ length xs
at_most o [] = omega arith
at_most o (x ∷ xs) = by (eq_by_cmp object_cmp o x) (at_most o xs)
  where
    by : (b : Bool) → times_in o xs ≤ length xs → length (cond b (x ∷ filter (eq_by_cmp object_cmp o) xs) (filter (eq_by_cmp object_cmp o) xs)) ≤ length (x ∷ xs)
    by true rest = omega (arith, rest)
    by false rest = omega (arith, rest)

pub can_give : (gs : Gifts) (objects : List Object) → ((o : Object) → Contains objects o → has_place gs o ≡ true) → ((o : Object) → Contains objects o → givers_of gs o + length objects ≤ 2 ^ 62) → Can More gs objects
can_give gs objects places few = record {
  places = places;
  few = λ o member. omega (arith, few o member, at_most o objects);
}

-- ---- one object

pub one_place : (change : Change) (gs : Gifts) (o : Object) → change ≡ More → Can change gs (o ∷ []) → has_place gs o ≡ true
one_place change gs o is can =
    let one : CanGive gs (o ∷ []) = subst (λ k. Can k gs (o ∷ [])) is can in
    one.places o (here o [])

pub one_few : (change : Change) (gs : Gifts) (o : Object) → change ≡ More → Can change gs (o ∷ []) → givers_of gs o < 2 ^ 62
one_few change gs o is can =
    let one : CanGive gs (o ∷ []) = subst (λ k. Can k gs (o ∷ [])) is can in
    omega (arith, one.few o (here o []), one_first o [])

pub one_some : (change : Change) (gs : Gifts) (o : Object) → change ≡ Less → Can change gs (o ∷ []) → 0 < givers_of gs o
one_some change gs o is can =
    let one : CanWithdraw gs (o ∷ []) = subst (λ k. Can k gs (o ∷ [])) is can in
    omega (arith, one o, one_first o [])
