-- Gifts stay gifts, and keep places and givers.
use mathlib.Core.Bool.{beq}
use Rattle.std.proofs.Common.{arith, ℕ, zero, suc, ◌≡◌, ◌≢◌, ◌⊎◌, ◌+◌, ◌-◌, ◌<◌, inl, inr, List, [], ◌∷◌, ◌++◌, map, filter, slice_get, slice_set, Contains, Option, Some, None, true, false, Bool, cond, refl, ap, sym, subst, ◌∙◌}
use Rattle.std.specs.Prelude.{is_some, if◌then◌else◌, nat_lt, not}
use Rattle.std.specs.Option.{option_map, option_map_or}
use Rattle.std.specs.Ordering.{eq_by_cmp}
use Rattle.std.specs.FinSet as set
use Rattle.std.proofs.lemmas.List.{map-append}
use Rattle.std.proofs.lemmas.Bool.Decides.{Decides-ltb}
use Rattle.plane_words.specs.Distinct.{AreDistinct}
use Rattle.kern_model.specs.declared.object.Object.{Object}
use Rattle.kern_model.specs.declared.object.Object.TheVariants as object
use Rattle.kern_model.specs.declared.object.Call.TheVariants.{Put}
use Rattle.kern_model.specs.ObjectOrder.{object_cmp, set_of}
use Rattle.kern_model.specs.Kernel.{replaces, after_call}
use Rattle.kern_model.specs.Line.{IsPrintable}
use Rattle.kern_model.proofs.MemberLemmas.{here, there, first_or_later, none_in_nil, member_of_map, all_members, member_of_all}
use Rattle.kern_model.proofs.SetLemmas.{same_object, has_retained, of_retained, same_members}
use Rattle.kern_calls.specs.Upper.{is_upper}
use Rattle.given_objects.specs.declared.gift.Gift.{Gift}
use Rattle.given_objects.specs.Gifts.{Gifts, is_of, gift_of, has_place, givers_of, is_given, objects_by, held_of, given_of, AreGifts}
use Rattle.given_objects.specs.Changes.{empty_gift, with_place, changed, given_once_more, given_once_less, noted, with_lost_link}
use Rattle.given_objects.proofs.ChangeLemmas.{of_itself, one_gift, found_gift, some_givers, set_stays, set_grows, set_shrinks, changed_gifts}
use Rattle.given_objects.proofs.FirstLemmas.{old_or_new}

-- no gifts
pub no_gifts : AreGifts []
no_gifts = record { once = tt; upper = λ g member. absurd (none_in_nil g member); fit = λ g member. absurd (none_in_nil g member) }

-- an object without a gift
pub no_gift : (gs : Gifts) (o : Object) → has_place gs o ≡ false → (g : Gift) → Contains gs g → g.object ≡ o → ⊥
no_gift [] o none g member is = none_in_nil g member
no_gift (x ∷ xs) o none g member is = by (λ rest later. no_gift xs o rest g later is) (is_of o x) refl none
  where
    by : (has_place xs o ≡ false → Contains xs g → ⊥) → (b : Bool) → is_of o x ≡ b → is_some (cond b (Some x) (gift_of xs o)) ≡ false → ⊥
    by rest true same none = absurd (cc none)
    by rest false other none = elim (first_or_later x xs g member) as (λ _. ⊥) [
      | inl first ↦ let on = ap (eq_by_cmp object_cmp o) (ap (λ (g : Gift). g.object) first ∙ is) ∙ of_itself o in cc (on, other)
      | inr later ↦ rest none later
    ]

-- one object more at the end of distinct ones
distinct_more : (xs : List Object) (o : Object) → AreDistinct xs → (Contains xs o → ⊥) → AreDistinct (xs ++ o ∷ [])
distinct_more [] o once apart = (tt, tt)
distinct_more (x ∷ xs) o once apart = (
  all_members (λ other. other ≢ x) (xs ++ o ∷ []) (λ y member. elim (of_more xs o y member) as (λ _. y ≢ x) [
    | inl old ↦ member_of_all (λ other. other ≢ x) xs y once.0 old
    | inr new ↦ λ same. apart (subst (Contains (x ∷ xs)) (sym same ∙ sym new) (here x xs))
  ]),
  distinct_more xs o once.1 (λ later. apart (there x xs o later)),
)
  where
    of_more : (ys : List Object) (o y : Object) → Contains (ys ++ o ∷ []) y → Contains ys y ⊎ (o ≡ y)
    of_more [] o y member = elim (first_or_later o [] y member) as (λ _. Contains [] y ⊎ (o ≡ y)) [ inl same ↦ inr same | inr later ↦ inl later ]
    of_more (z ∷ zs) o y member = elim (first_or_later z (zs ++ o ∷ []) y member) as (λ _. Contains (z ∷ zs) y ⊎ (o ≡ y)) [
      | inl same ↦ inl (subst (Contains (z ∷ zs)) same (here z zs))
      | inr later ↦ elim (of_more zs o y later) as (λ _. Contains (z ∷ zs) y ⊎ (o ≡ y)) [ inl old ↦ inl (there z zs y old) | inr new ↦ inr new ]
    ]

-- one more at the end, whose object had none
pub more_gifts : (gs : Gifts) (g : Gift) → has_place gs g.object ≡ false → is_upper g.object ≡ true → IsPrintable g.object → AreGifts gs → AreGifts (gs ++ g ∷ [])
more_gifts gs g none upper fit are = record {
  once = subst AreDistinct (sym (map-append (λ (x : Gift). x.object) gs (g ∷ [])))
      (distinct_more (map (λ (x : Gift). x.object) gs) g.object are.once (λ member. let from = member_of_map (λ (x : Gift). x.object) gs g.object member in no_gift gs g.object none from.source from.member from.same));
  upper = λ x member. elim (old_or_new gs g x member) as (λ _. is_upper x.object ≡ true) [ inl old ↦ are.upper x old | inr new ↦ subst (λ (y : Gift). is_upper y.object ≡ true) new upper ];
  fit = λ x member. elim (old_or_new gs g x member) as (λ _. IsPrintable x.object) [ inl old ↦ are.fit x old | inr new ↦ subst (λ (y : Gift). IsPrintable y.object) new fit ];
}

-- with a place for an address or a route
pub place_gifts : (gs : Gifts) (o : Object) → is_upper o ≡ true → IsPrintable o → AreGifts gs → AreGifts (with_place gs o)
place_gifts gs o upper fit are = by (has_place gs o) refl
  where
    by : (b : Bool) → has_place gs o ≡ b → AreGifts (if b then gs else gs ++ empty_gift o ∷ [])
    by true is = are
    by false is = more_gifts gs (empty_gift o) is upper fit are

pub give_gifts : (gs : Gifts) (o : Object) → AreGifts gs → AreGifts (given_once_more gs o)
give_gifts gs o are = changed_gifts (λ (g : Gift). record g { givers = g.givers + 1 }) gs o (λ g. refl) are

pub withdraw_gifts : (gs : Gifts) (o : Object) → AreGifts gs → AreGifts (given_once_less gs o)
withdraw_gifts gs o are = changed_gifts (λ (g : Gift). record g { givers = g.givers - 1 }) gs o (λ g. refl) are

pub note_gifts : (gs : Gifts) (o : Object) (held : Bool) → AreGifts gs → AreGifts (noted gs o held)
note_gifts gs o held are = changed_gifts (λ (g : Gift). record g { held = held; loses_link = false }) gs o (λ g. refl) are

-- what is told of a name at a place is a change of one gift
told_at : (gs : Gifts) (place : ℕ) (loses_link : Bool) (g : Gift) → slice_get gs place ≡ Some g → with_lost_link gs place loses_link ≡ slice_set gs place (record g { loses_link = loses_link })
told_at gs place loses_link g at = ap (λ r. option_map_or (λ (g : Gift). slice_set gs place (record g { loses_link = loses_link })) r gs) at

not_told : (gs : Gifts) (place : ℕ) (loses_link : Bool) → slice_get gs place ≡ None → with_lost_link gs place loses_link ≡ gs
not_told gs place loses_link at = ap (λ r. option_map_or (λ (g : Gift). slice_set gs place (record g { loses_link = loses_link })) r gs) at

-- what is told that was known
set_same : (gs : Gifts) (place : ℕ) (g : Gift) → slice_get gs place ≡ Some g → slice_set gs place g ≡ gs
set_same [] place g at = cc at
set_same (x ∷ xs) zero g at = let same : x ≡ g = cc at in ap (λ (y : Gift). y ∷ xs) (sym same)
set_same (x ∷ xs) (suc i) g at = ap (λ (ys : Gifts). x ∷ ys) (set_same xs i g at)

pub same_flag : (a b : Bool) → beq a b ≡ true → a ≡ b
same_flag true true is = refl
same_flag true false is = cc is
same_flag false true is = cc is
same_flag false false is = refl

pub told_again : (gs : Gifts) (place : ℕ) (loses_link : Bool) (g : Gift) → slice_get gs place ≡ Some g → g.loses_link ≡ loses_link → gs ≡ with_lost_link gs place loses_link
told_again gs place loses_link g at is = sym (told_at gs place loses_link g at ∙ ap (λ (b : Bool). slice_set gs place (record g { loses_link = b })) (sym is) ∙ set_same gs place g at)

-- one gift in another's place, with the same of all that a test or a map sees
module _ {Y : Type 0} (f : Gift → Y) where
  same_map : (gs : Gifts) (place : ℕ) (g h : Gift) → slice_get gs place ≡ Some g → f h ≡ f g → map f (slice_set gs place h) ≡ map f gs
  same_map [] place g h at is = cc at
  same_map (x ∷ xs) zero g h at is = let same : x ≡ g = cc at in ap (λ (y : Y). y ∷ map f xs) (is ∙ ap f (sym same))
  same_map (x ∷ xs) (suc i) g h at is = ap (λ (ys : List Y). f x ∷ ys) (same_map xs i g h at is)

same_filter : (test : Gift → Bool) (gs : Gifts) (place : ℕ) (g h : Gift) → slice_get gs place ≡ Some g → test h ≡ test g → h.object ≡ g.object
    → map (λ (g : Gift). g.object) (filter test (slice_set gs place h)) ≡ map (λ (g : Gift). g.object) (filter test gs)
same_filter test [] place g h at is object = cc at
same_filter test (x ∷ xs) zero g h at is object =
    let same : x ≡ g = cc at in
    ap (λ b. map (λ (g : Gift). g.object) (cond b (h ∷ filter test xs) (filter test xs))) (is ∙ ap test (sym same))
    ∙ by (test x) (object ∙ ap (λ (g : Gift). g.object) (sym same))
  where
    by : (b : Bool) → h.object ≡ x.object → map (λ (g : Gift). g.object) (cond b (h ∷ filter test xs) (filter test xs)) ≡ map (λ (g : Gift). g.object) (cond b (x ∷ filter test xs) (filter test xs))
    by true one = ap (λ (o : Object). o ∷ map (λ (g : Gift). g.object) (filter test xs)) one
    by false one = refl
same_filter test (x ∷ xs) (suc i) g h at is object = by (test x) (same_filter test xs i g h at is object)
  where
    by : (b : Bool) → map (λ (g : Gift). g.object) (filter test (slice_set xs i h)) ≡ map (λ (g : Gift). g.object) (filter test xs)
        → map (λ (g : Gift). g.object) (cond b (x ∷ filter test (slice_set xs i h)) (filter test (slice_set xs i h))) ≡ map (λ (g : Gift). g.object) (cond b (x ∷ filter test xs) (filter test xs))
    by true rest = ap (λ (os : List Object). x.object ∷ os) rest
    by false rest = rest

set_member : (gs : Gifts) (place : ℕ) (h other : Gift) → Contains (slice_set gs place h) other → Contains gs other ⊎ (h ≡ other)
set_member [] place h other member = absurd (none_in_nil other member)
set_member (x ∷ xs) zero h other member = elim (first_or_later h xs other member) as (λ _. Contains (x ∷ xs) other ⊎ (h ≡ other)) [ inl same ↦ inr same | inr later ↦ inl (there x xs other later) ]
set_member (x ∷ xs) (suc i) h other member = elim (first_or_later x (slice_set xs i h) other member) as (λ _. Contains (x ∷ xs) other ⊎ (h ≡ other)) [
  | inl same ↦ inl (subst (Contains (x ∷ xs)) same (here x xs))
  | inr later ↦ elim (set_member xs i h other later) as (λ _. Contains (x ∷ xs) other ⊎ (h ≡ other)) [ inl old ↦ inl (there x xs other old) | inr new ↦ inr new ]
]

at_member : (gs : Gifts) (place : ℕ) (g : Gift) → slice_get gs place ≡ Some g → Contains gs g
at_member [] place g at = cc at
at_member (x ∷ xs) zero g at = subst (Contains (x ∷ xs)) (cc at) (here x xs)
at_member (x ∷ xs) (suc i) g at = there x xs g (at_member xs i g at)

module _ (gs : Gifts) (place : ℕ) (loses_link : Bool) where
  pub by_place : (P : Gifts → Type 0) → P gs → ((g : Gift) → slice_get gs place ≡ Some g → P (slice_set gs place (record g { loses_link = loses_link }))) → P (with_lost_link gs place loses_link)
  by_place P stays told = by (slice_get gs place) refl
    where
      by : (r : Option Gift) → slice_get gs place ≡ r → P (with_lost_link gs place loses_link)
      by None at = subst P (sym (not_told gs place loses_link at)) stays
      by (Some g) at = subst P (sym (told_at gs place loses_link g at)) (told g at)

  pub loses_link_gifts : AreGifts gs → AreGifts (with_lost_link gs place loses_link)
  loses_link_gifts are = by_place AreGifts are (λ g at. record {
    once = subst AreDistinct (sym (same_map (λ (g : Gift). g.object) gs place g (record g { loses_link = loses_link }) at refl)) are.once;
    upper = λ x member. elim (set_member gs place (record g { loses_link = loses_link }) x member) as (λ _. is_upper x.object ≡ true) [
      | inl old ↦ are.upper x old
      | inr new ↦ subst (λ (y : Gift). is_upper y.object ≡ true) new (are.upper g (at_member gs place g at))
    ];
    fit = λ x member. elim (set_member gs place (record g { loses_link = loses_link }) x member) as (λ _. IsPrintable x.object) [
      | inl old ↦ are.fit x old
      | inr new ↦ subst (λ (y : Gift). IsPrintable y.object) new (are.fit g (at_member gs place g at))
    ];
  })

  pub loses_link_held : held_of (with_lost_link gs place loses_link) ≡ held_of gs
  loses_link_held = by_place (λ xs. held_of xs ≡ held_of gs) refl (λ g at. ap set.from_list (same_filter (λ (g : Gift). g.held) gs place g (record g { loses_link = loses_link }) at refl refl))

  pub loses_link_given : given_of (with_lost_link gs place loses_link) ≡ given_of gs
  loses_link_given = by_place (λ xs. given_of xs ≡ given_of gs) refl (λ g at. ap set.from_list (same_filter is_given gs place g (record g { loses_link = loses_link }) at refl refl))

-- a place without givers adds nothing to a set of what passes a test
place_adds_none : (test : Gift → Bool) (gs : Gifts) (o : Object) → test (empty_gift o) ≡ false → objects_by test (with_place gs o) ≡ objects_by test gs
place_adds_none test gs o off = by (has_place gs o)
  where
    at_end : (xs : Gifts) → filter test (xs ++ empty_gift o ∷ []) ≡ filter test xs
    at_end [] = ap (λ b. cond b (empty_gift o ∷ []) []) off
    at_end (x ∷ xs) = ap (λ ys. cond (test x) (x ∷ ys) ys) (at_end xs)

    by : (b : Bool) → objects_by test (if b then gs else gs ++ empty_gift o ∷ []) ≡ objects_by test gs
    by true = refl
    by false = ap (λ (xs : Gifts). set_of (map (λ (g : Gift). g.object) xs)) (at_end gs)

pub place_held : (gs : Gifts) (o : Object) → held_of (with_place gs o) ≡ held_of gs
place_held gs o = place_adds_none (λ (g : Gift). g.held) gs o refl

pub place_given : (gs : Gifts) (o : Object) → given_of (with_place gs o) ≡ given_of gs
place_given gs o = place_adds_none is_given gs o refl

-- what notes do
pub note_given : (gs : Gifts) (o : Object) (held : Bool) → given_of (noted gs o held) ≡ given_of gs
note_given gs o held = set_stays (λ (g : Gift). record g { held = held; loses_link = false }) gs o (λ g. refl) is_given (λ g member is. refl)

never_replaces : (o x : Object) → is_upper o ≡ true → not (replaces o x) ≡ true
never_replaces (object.Address dev cidr) x h = refl
never_replaces (object.Route r) x h = refl
never_replaces o x h = absurd (cc h)

pub note_put : (gs : Gifts) (o : Object) → has_place gs o ≡ true → is_upper o ≡ true → held_of (noted gs o true) ≡ after_call (held_of gs) (Put o)
note_put gs o place upper =
    set_grows (λ (g : Gift). record g { held = true; loses_link = false }) gs o (λ g. refl) (λ (g : Gift). g.held) place (λ g. refl)
    ∙ ap (λ s. set.insert s o) (sym (same_members (set.retain (held_of gs) (λ x. not (replaces o x))) (held_of gs)
    (λ x h. (of_retained (held_of gs) (λ y. not (replaces o y)) x h).0)
    (λ x h. has_retained (held_of gs) (λ y. not (replaces o y)) x h (never_replaces o x upper))))

pub note_take : (gs : Gifts) (o : Object) → held_of (noted gs o false) ≡ set.remove (held_of gs) o
note_take gs o = set_shrinks (λ (g : Gift). record g { held = false; loses_link = false }) gs o (λ g. refl) (λ (g : Gift). g.held) (λ g member is. refl)

-- what givers do
pub give_held : (gs : Gifts) (o : Object) → held_of (given_once_more gs o) ≡ held_of gs
give_held gs o = set_stays (λ (g : Gift). record g { givers = g.givers + 1 }) gs o (λ g. refl) (λ (g : Gift). g.held) (λ g member is. refl)

pub withdraw_held : (gs : Gifts) (o : Object) → held_of (given_once_less gs o) ≡ held_of gs
withdraw_held gs o = set_stays (λ (g : Gift). record g { givers = g.givers - 1 }) gs o (λ g. refl) (λ (g : Gift). g.held) (λ g member is. refl)

some_more : (n m : ℕ) → n < m → nat_lt n m ≡ true
some_more n m h = (Decides-ltb n m).1 h

none_left : (n : ℕ) → n ≡ 0 → nat_lt 0 n ≡ false
none_left n h = ap (nat_lt 0) h

pub give_given : (gs : Gifts) (o : Object) → has_place gs o ≡ true → given_of (given_once_more gs o) ≡ set.insert (given_of gs) o
give_given gs o place = set_grows (λ (g : Gift). record g { givers = g.givers + 1 }) gs o (λ g. refl) is_given place (λ g. some_more 0 (g.givers + 1) (omega arith))

-- the givers of the gift of an object
its_givers : (gs : Gifts) (o : Object) → AreGifts gs → (n : ℕ) → givers_of gs o ≡ n → 0 < n → (g : Gift) → Contains gs g → g.object ≡ o → g.givers ≡ n
its_givers gs o are n is some g member same =
    let found = some_givers gs o (omega (arith, is, some)) in
    ap (λ (x : Gift). x.givers) (one_gift gs are.once g found.0 member found.1.member (same ∙ sym found.1.is)) ∙ found.2 ∙ is

pub withdraw_last : (gs : Gifts) (o : Object) → AreGifts gs → givers_of gs o ≡ 1 → given_of (given_once_less gs o) ≡ set.remove (given_of gs) o
withdraw_last gs o are is = set_shrinks (λ (g : Gift). record g { givers = g.givers - 1 }) gs o (λ g. refl) is_given
    (λ g member same. let one = its_givers gs o are 1 is (omega arith) g member same in none_left (g.givers - 1) (omega (arith, one)))

pub withdraw_one : (gs : Gifts) (o : Object) → AreGifts gs → 1 < givers_of gs o → given_of (given_once_less gs o) ≡ given_of gs
withdraw_one gs o are more = set_stays (λ (g : Gift). record g { givers = g.givers - 1 }) gs o (λ g. refl) is_given
    (λ g member same.
    let many = its_givers gs o are (givers_of gs o) refl (omega (arith, more)) g member same in
    some_more 0 (g.givers - 1) (omega (arith, many, more)) ∙ sym (some_more 0 g.givers (omega (arith, many, more))))

-- places and givers of an object after a change
module _ (change : Gift → Gift) (gs : Gifts) (o : Object) (objects_stay : (g : Gift) → (change g).object ≡ g.object) where
  pub gift_of_changed : (x : Object) → gift_of (changed change gs o) x ≡ option_map (λ (g : Gift). if is_of o g then change g else g) (gift_of gs x)
  gift_of_changed x = by gs
    where
      same_object_in : (g : Gift) (b : Bool) → is_of x (if b then change g else g) ≡ is_of x g
      same_object_in g true = ap (eq_by_cmp object_cmp x) (objects_stay g)
      same_object_in g false = refl

      step : (g : Gift) (rest past : Option Gift) → rest ≡ option_map (λ (g : Gift). if is_of o g then change g else g) past → (b : Bool)
          → cond b (Some (if is_of o g then change g else g)) rest ≡ option_map (λ (g : Gift). if is_of o g then change g else g) (cond b (Some g) past)
      step g rest past is true = refl
      step g rest past is false = is

      by : (xs : Gifts) → gift_of (changed change xs o) x ≡ option_map (λ (g : Gift). if is_of o g then change g else g) (gift_of xs x)
      by [] = refl
      by (g ∷ gs) =
          ap (λ b. cond b (Some (if is_of o g then change g else g)) (gift_of (changed change gs o) x)) (same_object_in g (is_of o g))
          ∙ step g (gift_of (changed change gs o) x) (gift_of gs x) (by gs) (is_of x g)

  pub place_stays : (x : Object) → has_place (changed change gs o) x ≡ has_place gs x
  place_stays x = ap is_some (gift_of_changed x) ∙ by (gift_of gs x)
    where
      by : (r : Option Gift) → is_some (option_map (λ (g : Gift). if is_of o g then change g else g) r) ≡ is_some r
      by None = refl
      by (Some g) = refl

  -- of other objects givers stay, and of all where a change leaves them
  pub givers_stay : (x : Object) → ((g : Gift) → g.object ≡ x → x ≡ o → (change g).givers ≡ g.givers) → givers_of (changed change gs o) x ≡ givers_of gs x
  givers_stay x left = ap (λ r. option_map_or (λ (g : Gift). g.givers) r 0) (gift_of_changed x) ∙ by (gift_of gs x) refl
    where
      one : (g : Gift) → g.object ≡ x → (b : Bool) → is_of o g ≡ b → (if b then change g else g).givers ≡ g.givers
      one g is true same = left g is (sym is ∙ sym (same_object o g.object same))
      one g is false other = refl

      by : (r : Option Gift) → gift_of gs x ≡ r → option_map_or (λ (g : Gift). g.givers) (option_map (λ (g : Gift). if is_of o g then change g else g) r) 0 ≡ option_map_or (λ (g : Gift). g.givers) r 0
      by None is = refl
      by (Some g) is = one g (found_gift gs x g is).is (is_of o g) refl

  -- of the object they are those of what is changed
  pub givers_made : (f : ℕ → ℕ) → (f 0 ≡ 0) ⊎ (has_place gs o ≡ true) → ((g : Gift) → (change g).givers ≡ f g.givers) → givers_of (changed change gs o) o ≡ f (givers_of gs o)
  givers_made f none made = ap (λ r. option_map_or (λ (g : Gift). g.givers) r 0) (gift_of_changed o) ∙ by (gift_of gs o) refl
    where
      by : (r : Option Gift) → gift_of gs o ≡ r → option_map_or (λ (g : Gift). g.givers) (option_map (λ (g : Gift). if is_of o g then change g else g) r) 0 ≡ f (option_map_or (λ (g : Gift). g.givers) r 0)
      by None is = elim none as (λ _. 0 ≡ f 0) [ inl zeros ↦ sym zeros | inr place ↦ let off = ap is_some is in absurd (cc (place, off)) ]
      by (Some g) is = ap (λ b. (if b then change g else g).givers) (ap (eq_by_cmp object_cmp o) (found_gift gs o g is).is ∙ of_itself o) ∙ made g
