-- What a step makes of the sets of what is held and given.
use Rattle.std.proofs.Common.{arith, ◌≡◌, ◌≢◌, ◌⊎◌, ◌<◌, inl, inr, [], ◌∷◌, map, filter, Contains, Option, Some, None, true, false, Bool, cond, refl, ap, sym, subst, ◌∙◌}
use Rattle.std.specs.Prelude.{is_some, if◌then◌else◌}
use Rattle.std.specs.Option.{option_map_or}
use Rattle.std.specs.Ordering.{eq_by_cmp, is_eq}
use Rattle.std.specs.Cmp.{tied_itself}
use Rattle.std.specs.FinSet as set
use Rattle.plane_words.specs.Distinct.{AreDistinct}
use Rattle.kern_model.specs.declared.object.Object.{Object}
use Rattle.kern_model.specs.ObjectOrder.{Has, object_cmp}
use Rattle.kern_model.specs.Line.{IsPrintable}
use Rattle.kern_model.proofs.OrderLemmas.{objects_total}
use Rattle.kern_model.proofs.MemberLemmas.{here, there, first_or_later, none_in_nil, map_member, member_of_map, member_of_all}
use Rattle.kern_model.proofs.SetLemmas.{same_object, same_or_other, set_of_member, member_of_set, has_itself, has_before, new_or_before, has_without, of_without, same_members}
use Rattle.kern_model.proofs.TestLemmas.{false_of_not}
use Rattle.kern_calls.specs.Upper.{is_upper}
use Rattle.given_objects.specs.declared.gift.Gift.{Gift}
use Rattle.given_objects.specs.Gifts.{Gifts, is_of, gift_of, has_place, givers_of, objects_by, AreGifts}
use Rattle.given_objects.specs.Changes.{changed}

pub of_itself : (o : Object) → eq_by_cmp object_cmp o o ≡ true
of_itself o = ap is_eq (tied_itself objects_total o)

-- a gift that passes a test has its object in the set, and each object of the set has such a gift
pub record HasGift (test : Gift → Bool) (gs : Gifts) (o : Object) : Type 0 where
  pub gift : Gift
  pub member : Contains gs gift
  pub passes : test gift ≡ true
  pub is : gift.object ≡ o

pub in_filter : (test : Gift → Bool) (gs : Gifts) (g : Gift) → Contains gs g → test g ≡ true → Contains (filter test gs) g
in_filter test [] g member passes = absurd (none_in_nil g member)
in_filter test (x ∷ xs) g member passes = elim (first_or_later x xs g member) as (λ _. Contains (filter test (x ∷ xs)) g) [
  | inl same ↦ subst (Contains (filter test (x ∷ xs))) same (subst (λ b. Contains (cond b (x ∷ filter test xs) (filter test xs)) x) (sym (ap test same ∙ passes)) (here x (filter test xs)))
  | inr later ↦ by (in_filter test xs g later passes) (test x)
]
  where
    by : Contains (filter test xs) g → (b : Bool) → Contains (cond b (x ∷ filter test xs) (filter test xs)) g
    by rest true = there x (filter test xs) g rest
    by rest false = rest

pub of_filter : (test : Gift → Bool) (gs : Gifts) (g : Gift) → Contains (filter test gs) g → Contains gs g × (test g ≡ true)
of_filter test [] g member = absurd (none_in_nil g member)
of_filter test (x ∷ xs) g member = by (λ later. of_filter test xs g later) (test x) refl member
  where
    by : (Contains (filter test xs) g → Contains xs g × (test g ≡ true)) → (b : Bool) → test x ≡ b → Contains (cond b (x ∷ filter test xs) (filter test xs)) g → Contains (x ∷ xs) g × (test g ≡ true)
    by rest true is member = elim (first_or_later x (filter test xs) g member) as (λ _. Contains (x ∷ xs) g × (test g ≡ true)) [
      | inl same ↦ (subst (Contains (x ∷ xs)) same (here x xs), ap test (sym same) ∙ is)
      | inr later ↦ let r = rest later in (there x xs g r.0, r.1)
    ]
    by rest false is member = let r = rest member in (there x xs g r.0, r.1)

pub of_gift : (test : Gift → Bool) (gs : Gifts) (g : Gift) → Contains gs g → test g ≡ true → Has (objects_by test gs) g.object
of_gift test gs g member passes = set_of_member (map (λ (g : Gift). g.object) (filter test gs)) g.object (map_member (λ (g : Gift). g.object) (filter test gs) g (in_filter test gs g member passes))

pub has_gift : (test : Gift → Bool) (gs : Gifts) (o : Object) → Has (objects_by test gs) o → HasGift test gs o
has_gift test gs o h =
    let from = member_of_map (λ (g : Gift). g.object) (filter test gs) o (member_of_set (map (λ (g : Gift). g.object) (filter test gs)) o h) in
    let was = of_filter test gs from.source from.member in
    record { gift = from.source; member = was.0; passes = was.1; is = from.same }

-- of distinct objects there is one gift of each
pub one_gift : (gs : Gifts) → AreDistinct (map (λ (g : Gift). g.object) gs) → (a b : Gift) → Contains gs a → Contains gs b → a.object ≡ b.object → a ≡ b
one_gift [] once a b first second same = absurd (none_in_nil a first)
one_gift (x ∷ xs) once a b first second same = elim (first_or_later x xs a first) as (λ _. a ≡ b) [
  | inl here_a ↦ elim (first_or_later x xs b second) as (λ _. a ≡ b) [
    | inl here_b ↦ sym here_a ∙ here_b
    | inr later ↦ absurd (apart b later (sym same ∙ ap (λ (g : Gift). g.object) (sym here_a)))
  ]
  | inr later ↦ elim (first_or_later x xs b second) as (λ _. a ≡ b) [
    | inl here_b ↦ absurd (apart a later (same ∙ ap (λ (g : Gift). g.object) (sym here_b)))
    | inr too ↦ one_gift xs once.1 a b later too same
  ]
]
  where
    apart : (g : Gift) → Contains xs g → g.object ≡ x.object → ⊥
    apart g member is = member_of_all (λ other. other ≢ x.object) (map (λ (g : Gift). g.object) xs) g.object once.0 (map_member (λ (g : Gift). g.object) xs g member) is

-- the gift that is found
pub record IsGiftOf (gs : Gifts) (o : Object) (g : Gift) : Type 0 where
  pub member : Contains gs g
  pub is : g.object ≡ o

pub found_gift : (gs : Gifts) (o : Object) (g : Gift) → gift_of gs o ≡ Some g → IsGiftOf gs o g
found_gift [] o g h = cc h
found_gift (x ∷ xs) o g h = by (λ rest. found_gift xs o g rest) (is_of o x) refl h
  where
    by : (gift_of xs o ≡ Some g → IsGiftOf xs o g) → (b : Bool) → is_of o x ≡ b → cond b (Some x) (gift_of xs o) ≡ Some g → IsGiftOf (x ∷ xs) o g
    by rest true is found =
        let same : x ≡ g = cc found in
        subst (IsGiftOf (x ∷ xs) o) same (record { member = here x xs; is = sym (same_object o x.object is) })
    by rest false is found = let r = rest found in record { member = there x xs g r.member; is = r.is }

pub place_found : (gs : Gifts) (o : Object) → has_place gs o ≡ true → (g : Gift) × IsGiftOf gs o g
place_found gs o h = by (gift_of gs o) refl h
  where
    by : (r : Option Gift) → gift_of gs o ≡ r → is_some r ≡ true → (g : Gift) × IsGiftOf gs o g
    by None is h = cc h
    by (Some g) is h = (g, found_gift gs o g is)

pub some_givers : (gs : Gifts) (o : Object) → 0 < givers_of gs o → (g : Gift) × IsGiftOf gs o g × (g.givers ≡ givers_of gs o)
some_givers gs o h = by (gift_of gs o) refl h
  where
    by : (r : Option Gift) → gift_of gs o ≡ r → 0 < option_map_or (λ (g : Gift). g.givers) r 0 → (g : Gift) × IsGiftOf gs o g × (g.givers ≡ givers_of gs o)
    by None is h = absurd (omega (arith, h))
    by (Some g) is h = (g, found_gift gs o g is, sym (ap (λ r. option_map_or (λ (g : Gift). g.givers) r 0) is))

-- the gifts with that of an object changed
module _ (change : Gift → Gift) (gs : Gifts) (o : Object) where
  abbrev pub one : Gift → Gift
  one g = if is_of o g then change g else g

  there_changed : (g : Gift) → Contains gs g → g.object ≡ o → Contains (changed change gs o) (change g)
  there_changed g member is =
      subst (Contains (changed change gs o)) (ap (λ b. if b then change g else g) (ap (eq_by_cmp object_cmp o) is ∙ of_itself o)) (map_member one gs g member)

  there_left : (g : Gift) → Contains gs g → (g.object ≡ o → ⊥) → Contains (changed change gs o) g
  there_left g member other =
      subst (Contains (changed change gs o)) (ap (λ b. if b then change g else g) (false_of_not (is_of o g) (λ h. other (sym (same_object o g.object h))))) (map_member one gs g member)

  -- a member was changed, or is as it was
  pub record WasGift (g : Gift) : Type 0 where
    pub was : Gift
    pub member : Contains gs was
    pub by : ((was.object ≡ o) × (change was ≡ g)) ⊎ ((was.object ≡ o → ⊥) × (was ≡ g))

  pub was_gift : (g : Gift) → Contains (changed change gs o) g → WasGift g
  was_gift g member =
      let from = member_of_map one gs g member in
      by from.source from.member from.same (is_of o from.source) refl
    where
      by : (x : Gift) → Contains gs x → one x ≡ g → (b : Bool) → is_of o x ≡ b → WasGift g
      by x there same true is = record { was = x; member = there; by = inl (sym (same_object o x.object is), ap (λ b. if b then change x else x) (sym is) ∙ same) }
      by x there same false is = record {
        was = x;
        member = there;
        by = inr (λ other. cc (is, ap (eq_by_cmp object_cmp o) other ∙ of_itself o), ap (λ b. if b then change x else x) (sym is) ∙ same);
      }

  module _ (objects_stay : (g : Gift) → (change g).object ≡ g.object) (test : Gift → Bool) where
    -- all other objects stay
    pub others_stay : (x : Object) → (x ≡ o → ⊥) → Has (objects_by test gs) x → Has (objects_by test (changed change gs o)) x
    others_stay x other h =
        let from = has_gift test gs x h in
        subst (Has (objects_by test (changed change gs o))) from.is (of_gift test (changed change gs o) from.gift (there_left from.gift from.member (λ same. other (sym from.is ∙ same))) from.passes)

    pub others_were : (x : Object) → (x ≡ o → ⊥) → Has (objects_by test (changed change gs o)) x → Has (objects_by test gs) x
    others_were x other h =
        let from = has_gift test (changed change gs o) x h in
        let past = was_gift from.gift from.member in
        elim past.by as (λ _. Has (objects_by test gs) x) [
          | inl made ↦ absurd (other (sym from.is ∙ ap (λ (g : Gift). g.object) (sym made.1) ∙ objects_stay past.was ∙ made.0))
          | inr left ↦ subst (Has (objects_by test gs)) from.is (of_gift test gs from.gift (subst (Contains gs) left.1 past.member) from.passes)
        ]

    -- where the test tells of what is changed what it told before, the set stays
    pub set_stays : ((g : Gift) → Contains gs g → g.object ≡ o → test (change g) ≡ test g) → objects_by test (changed change gs o) ≡ objects_by test gs
    set_stays tells = same_members (objects_by test (changed change gs o)) (objects_by test gs)
        (λ x h.
        let from = has_gift test (changed change gs o) x h in
        let past = was_gift from.gift from.member in
        elim past.by as (λ _. Has (objects_by test gs) x) [
          | inl made ↦ subst (Has (objects_by test gs)) (sym (objects_stay past.was) ∙ ap (λ (g : Gift). g.object) made.1 ∙ from.is)
              (of_gift test gs past.was past.member (sym (tells past.was past.member made.0) ∙ ap test made.1 ∙ from.passes))
          | inr left ↦ subst (Has (objects_by test gs)) from.is (of_gift test gs from.gift (subst (Contains gs) left.1 past.member) from.passes)
        ])
        (λ x h.
        let from = has_gift test gs x h in
        elim (same_or_other from.gift.object o) as (λ _. Has (objects_by test (changed change gs o)) x) [
          | inl same ↦ subst (Has (objects_by test (changed change gs o))) (objects_stay from.gift ∙ from.is)
              (of_gift test (changed change gs o) (change from.gift) (there_changed from.gift from.member same) (tells from.gift from.member same ∙ from.passes))
          | inr other ↦ subst (Has (objects_by test (changed change gs o))) from.is (of_gift test (changed change gs o) from.gift (there_left from.gift from.member other) from.passes)
        ])

    -- where it tells what is changed, the object is in the set
    pub set_grows : has_place gs o ≡ true → ((g : Gift) → test (change g) ≡ true) → objects_by test (changed change gs o) ≡ set.insert (objects_by test gs) o
    set_grows place tells =
        let here = place_found gs o place in
        let now : Has (objects_by test (changed change gs o)) o =
        subst (Has (objects_by test (changed change gs o))) (objects_stay here.0 ∙ here.1.is) (of_gift test (changed change gs o) (change here.0) (there_changed here.0 here.1.member here.1.is) (tells here.0)) in
        same_members (objects_by test (changed change gs o)) (set.insert (objects_by test gs) o)
        (λ x h. elim (same_or_other x o) as (λ _. Has (set.insert (objects_by test gs) o) x) [
          | inl same ↦ subst (Has (set.insert (objects_by test gs) o)) (sym same) (has_itself (objects_by test gs) o)
          | inr other ↦ has_before (objects_by test gs) o x (others_were x other h)
        ])
        (λ x h. elim (same_or_other x o) as (λ _. Has (objects_by test (changed change gs o)) x) [
          | inl same ↦ subst (Has (objects_by test (changed change gs o))) (sym same) now
          | inr other ↦ elim (new_or_before (objects_by test gs) o x h) as (λ _. Has (objects_by test (changed change gs o)) x) [ inl new ↦ absurd (other new) | inr before ↦ others_stay x other before ]
        ])

    -- where it does not tell what is changed, the object is not in the set
    pub set_shrinks : ((g : Gift) → Contains gs g → g.object ≡ o → test (change g) ≡ false) → objects_by test (changed change gs o) ≡ set.remove (objects_by test gs) o
    set_shrinks tells = same_members (objects_by test (changed change gs o)) (set.remove (objects_by test gs) o)
        (λ x h.
        let from = has_gift test (changed change gs o) x h in
        let past = was_gift from.gift from.member in
        elim past.by as (λ _. Has (set.remove (objects_by test gs) o) x) [
          | inl made ↦ let off = tells past.was past.member made.0 in let on = ap test made.1 ∙ from.passes in absurd (cc (on, off))
          | inr left ↦ has_without (objects_by test gs) o x (subst (Has (objects_by test gs)) from.is (of_gift test gs from.gift (subst (Contains gs) left.1 past.member) from.passes))
              (λ same. left.0 (ap (λ (g : Gift). g.object) left.1 ∙ from.is ∙ same))
        ])
        (λ x h. let was = of_without (objects_by test gs) o x h in others_stay x was.1 was.0)

  -- gifts stay gifts
  module _ (objects_stay : (g : Gift) → (change g).object ≡ g.object) where
    pub objects_of_changed : map (λ (g : Gift). g.object) (changed change gs o) ≡ map (λ (g : Gift). g.object) gs
    objects_of_changed = by gs
      where
        each : (g : Gift) (b : Bool) → (if b then change g else g).object ≡ g.object
        each g true = objects_stay g
        each g false = refl

        by : (xs : Gifts) → map (λ (g : Gift). g.object) (changed change xs o) ≡ map (λ (g : Gift). g.object) xs
        by [] = refl
        by (x ∷ xs) = λ i. each x (is_of o x) i ∷ by xs i

    pub changed_gifts : AreGifts gs → AreGifts (changed change gs o)
    changed_gifts are = record {
      once = subst AreDistinct (sym objects_of_changed) are.once;
      upper = λ g member. subst (λ x. is_upper x ≡ true) (object_was g member).2 (are.upper (object_was g member).0 (object_was g member).1);
      fit = λ g member. subst IsPrintable (object_was g member).2 (are.fit (object_was g member).0 (object_was g member).1);
    }
      where
        object_was : (g : Gift) → Contains (changed change gs o) g → (x : Gift) × Contains gs x × (x.object ≡ g.object)
        object_was g member =
            let past = was_gift g member in (
              past.was,
              past.member,
              elim past.by as (λ _. past.was.object ≡ g.object) [
                | inl made ↦ sym (objects_stay past.was) ∙ ap (λ (g : Gift). g.object) made.1
                | inr left ↦ ap (λ (g : Gift). g.object) left.1
              ],
            )
