-- How many objects the parts of a set have, and what is due between them.
use Rattle.std.proofs.Common.{arith, ◌≡◌, ◌+◌, inl, inr, List, [], ◌∷◌, Bool, true, cond, ap, sym, subst, ◌∙◌}
use Rattle.std.specs.Prelude.{not}
use Rattle.std.specs.FinSet as set
use Rattle.kern_model.specs.declared.object.Object.{Object}
use Rattle.kern_model.specs.ObjectOrder.{Objects, Has, object_cmp, set_of}
use Rattle.kern_model.proofs.OrderLemmas.{objects_total}
use Rattle.kern_model.proofs.SetLemmas.{set_of_member, member_of_set, set_of_item, item_of_set, has_itself, has_before, new_or_before, has_retained, of_retained, same_members, none_in_empty}
use Rattle.kern_model.proofs.TestLemmas.{both, of_both, not_true, of_not, false_of_not, true_or_not}
use Rattle.kern_calls.specs.Lower.{is_lower, lower_part}
use Rattle.kern_calls.specs.Due.{due_count}
use Rattle.kern_calls.specs.Upper.{is_upper, upper_part}

-- a set is that of its items
pub set_of_items : (s : Objects) → set_of (set.items s) ≡ s
set_of_items s = same_members (set_of (set.items s)) s (λ x h. set_of_item s x (member_of_set (set.items s) x h)) (λ x h. set_of_member (set.items s) x (item_of_set s x h))

-- one object more, and the part of those that pass a test
inserted_again : (s : Objects) (x : Object) → Has s x → set.insert s x ≡ s
inserted_again s x had = same_members (set.insert s x) s
    (λ y h. elim (new_or_before s x y h) as (λ _. Has s y) [ inl same ↦ subst (Has s) (sym same) had | inr before ↦ before ])
    (λ y h. has_before s x y h)

one_more : (s : Objects) (x : Object) → (Has s x → ⊥) → set.len (set.insert s x) ≡ set.len s + 1
one_more s x new = set.len-insert objects_total s x ∙ ap (λ b. cond b (set.len s) (set.len s + 1)) (false_of_not (set.contains s x) new)

module _ (p : Object → Bool) (s : Objects) (x : Object) where
  more_in_part : p x ≡ true → set.retain (set.insert s x) p ≡ set.insert (set.retain s p) x
  more_in_part passes = same_members (set.retain (set.insert s x) p) (set.insert (set.retain s p) x)
      (λ y h. let is = of_retained (set.insert s x) p y h in elim (new_or_before s x y is.0) as (λ _. Has (set.insert (set.retain s p) x) y) [
        | inl same ↦ subst (Has (set.insert (set.retain s p) x)) (sym same) (has_itself (set.retain s p) x)
        | inr before ↦ has_before (set.retain s p) x y (has_retained s p y before is.1)
      ])
      (λ y h. elim (new_or_before (set.retain s p) x y h) as (λ _. Has (set.retain (set.insert s x) p) y) [
        | inl same ↦ has_retained (set.insert s x) p y (subst (Has (set.insert s x)) (sym same) (has_itself s x)) (ap p same ∙ passes)
        | inr before ↦ let was = of_retained s p y before in has_retained (set.insert s x) p y (has_before s x y was.0) was.1
      ])

  none_in_part : (p x ≡ true → ⊥) → set.retain (set.insert s x) p ≡ set.retain s p
  none_in_part fails = same_members (set.retain (set.insert s x) p) (set.retain s p)
      (λ y h. let is = of_retained (set.insert s x) p y h in elim (new_or_before s x y is.0) as (λ _. Has (set.retain s p) y) [
        | inl same ↦ absurd (fails (ap p (sym same) ∙ is.1))
        | inr before ↦ has_retained s p y before is.1
      ])
      (λ y h. let was = of_retained s p y h in has_retained (set.insert s x) p y (has_before s x y was.0) was.1)

  part_grows : (Has s x → ⊥) → p x ≡ true → set.len (set.retain (set.insert s x) p) ≡ set.len (set.retain s p) + 1
  part_grows new passes = ap set.len (more_in_part passes) ∙ one_more (set.retain s p) x (λ h. new (of_retained s p x h).0)

nothing_in_part : (p : Object → Bool) → set.len (set.retain (set.empty {R = object_cmp}) p) ≡ 0
nothing_in_part p = ap set.len (same_members (set.retain set.empty p) set.empty (λ x h. (of_retained set.empty p x h).0) (λ x h. absurd (none_in_empty x h))) ∙ set.len-empty object_cmp

-- what passes and what does not are all
size_of_parts_of : (p : Object → Bool) (xs : List Object) → set.len (set_of xs) ≡ set.len (set.retain (set_of xs) p) + set.len (set.retain (set_of xs) (λ o. not (p o)))
size_of_parts_of p [] =
    let all = set.len-empty object_cmp in
    let some = nothing_in_part p in
    let others = nothing_in_part (λ o. not (p o)) in
    omega arith
size_of_parts_of p (x ∷ xs) =
    let s = set_of xs in
    let q = λ (o : Object). not (p o) in
    let before = size_of_parts_of p xs in
    elim (true_or_not (set.contains s x)) as (λ _. set.len (set.insert s x) ≡ set.len (set.retain (set.insert s x) p) + set.len (set.retain (set.insert s x) q)) [
      | inl again ↦ subst (λ t. set.len t ≡ set.len (set.retain t p) + set.len (set.retain t q)) (sym (inserted_again s x again)) before
      | inr new ↦
          let all = one_more s x new in
          elim (true_or_not (p x)) as (λ _. set.len (set.insert s x) ≡ set.len (set.retain (set.insert s x) p) + set.len (set.retain (set.insert s x) q)) [
            | inl passes ↦
                let some = part_grows p s x new passes in
                let others = ap set.len (none_in_part q s x (λ h. not_true (p x) h passes)) in
                omega arith
            | inr fails ↦
                let some = ap set.len (none_in_part p s x fails) in
                let others = part_grows q s x new (of_not (p x) fails) in
                omega arith
          ]
    ]

size_of_parts : (s : Objects) → set.len s ≡ set.len (lower_part s) + set.len (upper_part s)
size_of_parts s = subst (λ t. set.len t ≡ set.len (lower_part t) + set.len (upper_part t)) (set_of_items s) (size_of_parts_of is_lower (set.items s))

-- a part of what is in one set and not in the other is what is so of the parts
beyond_in_part : (p : Object → Bool) (s t : Objects) → set.retain (set.difference s t) p ≡ set.difference (set.retain s p) (set.retain t p)
beyond_in_part p s t = same_members (set.retain (set.difference s t) p) (set.difference (set.retain s p) (set.retain t p))
    (λ x h.
    let is = of_retained (set.difference s t) p x h in
    let parts = both (set.contains s x) (not (set.contains t x)) (sym (set.contains-difference objects_total s t x) ∙ is.0) in
    set.contains-difference objects_total (set.retain s p) (set.retain t p) x
    ∙ of_both (set.contains (set.retain s p) x) (not (set.contains (set.retain t p) x)) (has_retained s p x parts.0 is.1)
    (of_not (set.contains (set.retain t p) x) (λ also. not_true (set.contains t x) parts.1 (of_retained t p x also).0)))
    (λ x h.
    let parts = both (set.contains (set.retain s p) x) (not (set.contains (set.retain t p) x)) (sym (set.contains-difference objects_total (set.retain s p) (set.retain t p) x) ∙ h) in
    let was = of_retained s p x parts.0 in
    has_retained (set.difference s t) p x
    (set.contains-difference objects_total s t x
    ∙ of_both (set.contains s x) (not (set.contains t x)) was.0 (of_not (set.contains t x) (λ also. not_true (set.contains (set.retain t p) x) parts.1 (has_retained t p x also was.1)))) was.1)

beyond_is : (s t : Objects) → set.len (set.difference s t) ≡ set.len (set.difference (lower_part s) (lower_part t)) + set.len (set.difference (upper_part s) (upper_part t))
beyond_is s t =
    let all = size_of_parts (set.difference s t) in
    let lower = ap set.len (beyond_in_part is_lower s t) in
    let upper = ap set.len (beyond_in_part is_upper s t) in
    omega arith

pub due_in_parts : (held wanted : Objects) → due_count held wanted ≡ due_count (lower_part held) (lower_part wanted) + due_count (upper_part held) (upper_part wanted)
due_in_parts held wanted = let old = beyond_is held wanted in let new = beyond_is wanted held in omega arith
