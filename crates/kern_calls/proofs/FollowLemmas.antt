-- What calls and a device that goes do to the two parts of a set.
use Rattle.std.proofs.Common.{ℕ, ◌≡◌, ◌⊎◌, ◌↔◌, inl, inr, List, Bool, true, false, refl, ap, sym, subst, ◌∙◌}
use Rattle.std.specs.Prelude.{◌||◌, not}
use Rattle.std.specs.List.{list_any}
use Rattle.std.specs.FinSet as set
use Rattle.kern_model.specs.declared.object.Object.{Object}
use Rattle.kern_model.specs.declared.object.Object.TheVariants as object
use Rattle.kern_model.specs.declared.object.Call.{Call}
use Rattle.kern_model.specs.declared.object.Call.TheVariants.{Put, Take}
use Rattle.kern_model.specs.ObjectOrder.{Objects, Has}
use Rattle.kern_model.specs.Standing.{places_of, is_over, stands_on, gone}
use Rattle.kern_model.specs.Kernel.{Devices, name_of, object_of, replaces, after_call}
use Rattle.kern_model.specs.Allowed.{AreAllowed}
use Rattle.kern_model.proofs.OrderLemmas.{objects_total}
use Rattle.kern_model.proofs.SetLemmas.{has_itself, has_before, new_or_before, has_without, of_without, has_retained, of_retained, same_members}
use Rattle.kern_model.proofs.TestLemmas.{either, of_left, of_right, not_true, of_not, true_or_not, true_of_both_ways}
use Rattle.kern_model.proofs.GoneLemmas.{is_over_of_test, test_of_is_over, over_more}
use Rattle.kern_model.proofs.TouchLemmas.{IsReplaceable, replaceable}
use Rattle.kern_calls.specs.Lower.{is_lower, lower_part, is_lower_call}
use Rattle.kern_calls.proofs.GoOnLemmas.{still_over}
use Rattle.kern_calls.specs.Upper.{is_upper, upper_part}

-- after a put: what was put, and what it does not replace
put_cases : (s : Objects) (o x : Object) → Has (after_call s (Put o)) x → (x ≡ o) ⊎ (Has s x × (replaces o x ≡ true → ⊥))
put_cases s o x h =
    elim (new_or_before (set.retain s (λ y. not (replaces o y))) o x h) as (λ _. (x ≡ o) ⊎ (Has s x × (replaces o x ≡ true → ⊥))) [
      | inl same ↦ inl same
      | inr old ↦ let was = of_retained s (λ y. not (replaces o y)) x old in inr (was.0, not_true (replaces o x) was.1)
    ]

put_keeps : (s : Objects) (o x : Object) → Has s x → (replaces o x ≡ true → ⊥) → Has (after_call s (Put o)) x
put_keeps s o x h stays = has_before (set.retain s (λ y. not (replaces o y))) o x (has_retained s (λ y. not (replaces o y)) x h (of_not (replaces o x) stays))

put_has : (s : Objects) (o x : Object) → x ≡ o → Has (after_call s (Put o)) x
put_has s o x same = subst (Has (after_call s (Put o))) (sym same) (has_itself (set.retain s (λ y. not (replaces o y))) o)

-- the part of what passes a test follows a call of an object that passes
module _ (p : Object → Bool) (s : Objects) where
  pub part_follows : (call : Call) → p (object_of call) ≡ true → set.retain (after_call s call) p ≡ after_call (set.retain s p) call
  part_follows (Put o) in_part = same_members (set.retain (after_call s (Put o)) p) (after_call (set.retain s p) (Put o))
      (λ x h. let is = of_retained (after_call s (Put o)) p x h in elim (put_cases s o x is.0) as (λ _. Has (after_call (set.retain s p) (Put o)) x) [
        | inl same ↦ put_has (set.retain s p) o x same
        | inr old ↦ put_keeps (set.retain s p) o x (has_retained s p x old.0 is.1) old.1
      ])
      (λ x h. elim (put_cases (set.retain s p) o x h) as (λ _. Has (set.retain (after_call s (Put o)) p) x) [
        | inl same ↦ has_retained (after_call s (Put o)) p x (put_has s o x same) (ap p same ∙ in_part)
        | inr old ↦ let was = of_retained s p x old.0 in has_retained (after_call s (Put o)) p x (put_keeps s o x was.0 old.1) was.1
      ])
  part_follows (Take o mtu mac) in_part = same_members (set.retain (set.remove s o) p) (set.remove (set.retain s p) o)
      (λ x h. let is = of_retained (set.remove s o) p x h in let was = of_without s o x is.0 in has_without (set.retain s p) o x (has_retained s p x was.0 is.1) was.1)
      (λ x h. let was = of_without (set.retain s p) o x h in let is = of_retained s p x was.0 in has_retained (set.remove s o) p x (has_without s o x is.0 was.1) is.1)

  -- and stays at a call of an object that does not, where that takes the place of none that does
  pub part_stays : (call : Call) → (p (object_of call) ≡ true → ⊥) → ((x : Object) → p x ≡ true → replaces (object_of call) x ≡ true → ⊥) → set.retain (after_call s call) p ≡ set.retain s p
  part_stays (Put o) off apart = same_members (set.retain (after_call s (Put o)) p) (set.retain s p)
      (λ x h. let is = of_retained (after_call s (Put o)) p x h in elim (put_cases s o x is.0) as (λ _. Has (set.retain s p) x) [
        | inl same ↦ absurd (off (ap p (sym same) ∙ is.1))
        | inr old ↦ has_retained s p x old.0 is.1
      ])
      (λ x h. let was = of_retained s p x h in has_retained (after_call s (Put o)) p x (put_keeps s o x was.0 (apart x was.1)) was.1)
  part_stays (Take o mtu mac) off apart = same_members (set.retain (set.remove s o) p) (set.retain s p)
      (λ x h. let is = of_retained (set.remove s o) p x h in has_retained s p x (of_without s o x is.0).0 is.1)
      (λ x h. let was = of_retained s p x h in has_retained (set.remove s o) p x (has_without s o x was.0 (λ same. off (ap p (sym same) ∙ was.1))) was.1)

-- addresses and routes are not replaced, and replace nothing
not_both : (o : Object) → is_lower o ≡ true → is_upper o ≡ true → ⊥
not_both o lower upper = not_true (is_lower o) upper lower

replaceable_is_lower : (x : Object) → IsReplaceable x → is_lower x ≡ true
replaceable_is_lower (object.Mtu name mtu) r = refl
replaceable_is_lower (object.Mac name mac) r = refl
replaceable_is_lower x r = absurd r

replaced_is_lower : (o x : Object) → replaces o x ≡ true → is_lower x ≡ true
replaced_is_lower o x h = replaceable_is_lower x (replaceable o x h)

replacer_is_lower : (o x : Object) → replaces o x ≡ true → is_lower o ≡ true
replacer_is_lower (object.Mtu name mtu) x h = refl
replacer_is_lower (object.Mac name mac) x h = refl
replacer_is_lower o x h = absurd (cc h)

pub lower_follows : (held : Objects) (call : Call) → is_lower_call call ≡ true → (lower_part (after_call held call) ≡ after_call (lower_part held) call) × (upper_part (after_call held call) ≡ upper_part held)
lower_follows held call lower = (
  part_follows is_lower held call lower,
  part_stays is_upper held call (not_both (object_of call) lower) (λ x upper replaced. not_both x (replaced_is_lower (object_of call) x replaced) upper),
)

pub upper_follows : (held : Objects) (call : Call) → is_lower_call call ≡ false → (lower_part (after_call held call) ≡ lower_part held) × (upper_part (after_call held call) ≡ after_call (upper_part held) call)
upper_follows held call off =
    let upper : is_upper (object_of call) ≡ true = ap not off in (
      part_stays is_lower held call (λ lower. not_both (object_of call) lower upper) (λ x lower replaced. not_both (object_of call) (replacer_is_lower (object_of call) x replaced) upper),
      part_follows is_upper held call upper,
    )

-- unions
in_union : (s t : Objects) (x : Object) → Has s x ⊎ Has t x → Has (set.union s t) x
in_union s t x h = set.contains-union objects_total s t x ∙ (elim h as (λ _. (set.contains s x || set.contains t x) ≡ true) [
  | inl first ↦ of_left (set.contains s x) (set.contains t x) first
  | inr second ↦ of_right (set.contains s x) (set.contains t x) second
])

of_union : (s t : Objects) (x : Object) → Has (set.union s t) x → Has s x ⊎ Has t x
of_union s t x h = either (set.contains s x) (set.contains t x) (sym (set.contains-union objects_total s t x) ∙ h)

-- both parts are the whole
pub parts_are_whole : (held : Objects) → set.union (lower_part held) (upper_part held) ≡ held
parts_are_whole held = same_members (set.union (lower_part held) (upper_part held)) held
    (λ x h. elim (of_union (lower_part held) (upper_part held) x h) as (λ _. Has held x) [
      | inl lower ↦ (of_retained held is_lower x lower).0
      | inr upper ↦ (of_retained held is_upper x upper).0
    ])
    (λ x h. in_union (lower_part held) (upper_part held) x (elim (true_or_not (is_lower x)) as (λ _. Has (lower_part held) x ⊎ Has (upper_part held) x) [
      | inl lower ↦ inl (has_retained held is_lower x h lower)
      | inr off ↦ inr (has_retained held is_upper x h (of_not (is_lower x) off))
    ]))

-- and two such sets are the parts of their union
module _ (lower upper : Objects) (below : (o : Object) → Has lower o → is_lower o ≡ true) (above : (o : Object) → Has upper o → is_upper o ≡ true) where
  pub joined_parts : (lower_part (set.union lower upper) ≡ lower) × (upper_part (set.union lower upper) ≡ upper)
  joined_parts = (
    same_members (lower_part (set.union lower upper)) lower
        (λ x h. let is = of_retained (set.union lower upper) is_lower x h in elim (of_union lower upper x is.0) as (λ _. Has lower x) [ inl first ↦ first | inr second ↦ absurd (not_both x is.1 (above x second)) ])
        (λ x h. has_retained (set.union lower upper) is_lower x (in_union lower upper x (inl h)) (below x h)),
    same_members (upper_part (set.union lower upper)) upper
        (λ x h. let is = of_retained (set.union lower upper) is_upper x h in elim (of_union lower upper x is.0) as (λ _. Has upper x) [ inl first ↦ absurd (not_both x (below x first) is.1) | inr second ↦ second ])
        (λ x h. has_retained (set.union lower upper) is_upper x (in_union lower upper x (inr h)) (above x h)),
  )

-- the lower part tells what stands on a name
over_in_parts : (held : Objects) (base name : List ℕ) → is_over (lower_part held) base name ≡ is_over held base name
over_in_parts held base name = true_of_both_ways (is_over (lower_part held) base name) (is_over held base name)
    (λ h. over_more (lower_part held) held (λ x g. (of_retained held is_lower x g).0) base name h)
    (λ h. test_of_is_over (lower_part held) base name (still_over held (lower_part held) base name (λ v kind g q. has_retained held is_lower (object.Link v kind) g refl) (is_over_of_test held base name h)))

stands_in_parts : (held : Objects) (name : List ℕ) (o : Object) → stands_on (lower_part held) name o ≡ stands_on held name o
stands_in_parts held name o = λ i. list_any (λ place. over_in_parts held name place i) (places_of o)

pub lower_goes : (held : Objects) (name : List ℕ) → lower_part (gone held name) ≡ gone (lower_part held) name
lower_goes held name =
    let of_all = λ (o : Object). not (stands_on held name o) in
    let of_part = λ (o : Object). not (stands_on (lower_part held) name o) in
    same_members (lower_part (gone held name)) (gone (lower_part held) name)
    (λ x h. let is = of_retained (gone held name) is_lower x h in let was = of_retained held of_all x is.0 in has_retained (lower_part held) of_part x (has_retained held is_lower x was.0 is.1) (ap not (stands_in_parts held name x) ∙ was.1))
    (λ x h. let is = of_retained (lower_part held) of_part x h in let was = of_retained held is_lower x is.0 in
    has_retained (gone held name) is_lower x (has_retained held of_all x was.0 (sym (ap not (stands_in_parts held name x)) ∙ is.1)) was.1)

-- an address or a route goes with its device's being up
stands_as_up : (held : Objects) (name : List ℕ) (o : Object) → is_upper o ≡ true → stands_on held name o ≡ stands_on held name (object.Up (name_of o))
stands_as_up held name (object.Address dev cidr) upper = refl
stands_as_up held name (object.Route r) upper = refl
stands_as_up held name o upper = absurd (cc upper)

up_is_held : (devices : Devices) (held : Objects) → AreAllowed devices held → (o : Object) → is_upper o ≡ true → Has held o → Has held (object.Up (name_of o))
up_is_held devices held allowed (object.Address dev cidr) upper h = allowed.supported (object.Address dev cidr) h
up_is_held devices held allowed (object.Route r) upper h = allowed.supported (object.Route r) h
up_is_held devices held allowed o upper h = absurd (cc upper)

pub goes_with_up : (devices : Devices) (held : Objects) (name : List ℕ) (o : Object) → AreAllowed devices held → Has held o → is_upper o ≡ true → Has (gone held name) o ↔ Has (gone held name) (object.Up (name_of o))
goes_with_up devices held name o allowed h upper =
    let stays = λ (x : Object). not (stands_on held name x) in
    let same : stays o ≡ stays (object.Up (name_of o)) = ap not (stands_as_up held name o upper) in (
      λ left. has_retained held stays (object.Up (name_of o)) (up_is_held devices held allowed o upper h) (sym same ∙ (of_retained held stays o left).1),
      λ left. has_retained held stays o h (same ∙ (of_retained held stays (object.Up (name_of o)) left).1),
    )
