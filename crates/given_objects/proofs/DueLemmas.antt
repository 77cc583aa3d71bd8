-- How many objects are held and not given, or given and not held: as many as gifts tell so.
use Rattle.std.proofs.Common.{arith, ℕ, zero, suc, ◌≡◌, ◌≢◌, ◌+◌, ◌≤◌, inl, inr, [], ◌∷◌, ◌++◌, length, take, map, filter, true, false, Bool, cond, refl, ap, sym, subst, ◌∙◌}
use Rattle.std.specs.Prelude.{not, if◌then◌else◌}
use Rattle.std.specs.FinSet as set
use Rattle.plane_words.specs.Distinct.{AreDistinct}
use Rattle.kern_model.specs.declared.object.Object.{Object}
use Rattle.kern_model.specs.ObjectOrder.{Objects, Has, object_cmp, set_of}
use Rattle.kern_model.proofs.OrderLemmas.{objects_total}
use Rattle.kern_model.proofs.MemberLemmas.{map_member, member_of_all}
use Rattle.kern_model.proofs.SetLemmas.{has_itself, has_before, new_or_before, same_members, none_in_empty}
use Rattle.kern_model.proofs.TestLemmas.{both, of_both, not_true, of_not, false_of_not}
use Rattle.kern_calls.specs.Due.{due_count}
use Rattle.given_objects.specs.declared.gift.Gift.{Gift}
use Rattle.given_objects.specs.Gifts.{Gifts, is_given, objects_by, held_of, given_of}
use Rattle.given_objects.specs.Due.{alone}
use Rattle.given_objects.proofs.ChangeLemmas.{has_gift}

-- the gifts that are held or given and not both
abbrev pub alone_in : Gifts → ℕ
alone_in [] = 0
alone_in (g ∷ gs) = alone g + alone_in gs

pub alone_more : (gs : Gifts) (g : Gift) → alone_in (gs ++ g ∷ []) ≡ alone_in gs + alone g
alone_more [] g = omega arith
alone_more (x ∷ xs) g = let rest = alone_more xs g in omega (arith, rest)

pub at_most_one : (g : Gift) → alone g ≤ 1
at_most_one g = by g.held (is_given g)
  where
    by : (b c : Bool) → (if b then (if c then 0 else 1) else (if c then 1 else 0)) ≤ 1
    by true true = omega arith
    by true false = omega arith
    by false true = omega arith
    by false false = omega arith

pub alone_few : (gs : Gifts) → alone_in gs ≤ length gs
alone_few [] = omega arith
alone_few (g ∷ gs) = let rest = alone_few gs in let one = at_most_one g in omega (arith, rest, one)

beyond : (s t : Objects) (x : Object) → Has s x → (Has t x → ⊥) → Has (set.difference s t) x
beyond s t x h other = set.contains-difference objects_total s t x ∙ of_both (set.contains s x) (not (set.contains t x)) h (of_not (set.contains t x) other)

of_beyond : (s t : Objects) (x : Object) → Has (set.difference s t) x → Has s x × (Has t x → ⊥)
of_beyond s t x h =
    let parts = both (set.contains s x) (not (set.contains t x)) (sym (set.contains-difference objects_total s t x) ∙ h) in
    (parts.0, not_true (set.contains t x) parts.1)

-- one object more, which neither set had
module _ (s t : Objects) (o : Object) (new : Has s o → ⊥) where
  right_more : set.difference s (set.insert t o) ≡ set.difference s t
  right_more = same_members (set.difference s (set.insert t o)) (set.difference s t)
      (λ x h. let was = of_beyond s (set.insert t o) x h in beyond s t x was.0 (λ also. was.1 (has_before t o x also)))
      (λ x h.
      let was = of_beyond s t x h in
      beyond s (set.insert t o) x was.0 (λ also. elim (new_or_before t o x also) as (λ _. ⊥) [ inl same ↦ new (subst (Has s) same was.0) | inr before ↦ was.1 before ]))

  both_more : set.difference (set.insert s o) (set.insert t o) ≡ set.difference s t
  both_more = same_members (set.difference (set.insert s o) (set.insert t o)) (set.difference s t)
      (λ x h.
      let was = of_beyond (set.insert s o) (set.insert t o) x h in
      elim (new_or_before s o x was.0) as (λ _. Has (set.difference s t) x) [
        | inl same ↦ absurd (was.1 (subst (Has (set.insert t o)) (sym same) (has_itself t o)))
        | inr before ↦ beyond s t x before (λ also. was.1 (has_before t o x also))
      ])
      (λ x h.
      let was = of_beyond s t x h in
      beyond (set.insert s o) (set.insert t o) x (has_before s o x was.0) (λ also. elim (new_or_before t o x also) as (λ _. ⊥) [ inl same ↦ new (subst (Has s) same was.0) | inr before ↦ was.1 before ]))

  left_more : (Has t o → ⊥) → set.len (set.difference (set.insert s o) t) ≡ set.len (set.difference s t) + 1
  left_more apart =
      ap set.len (same_members (set.difference (set.insert s o) t) (set.insert (set.difference s t) o)
      (λ x h.
      let was = of_beyond (set.insert s o) t x h in
      elim (new_or_before s o x was.0) as (λ _. Has (set.insert (set.difference s t) o) x) [
        | inl same ↦ subst (Has (set.insert (set.difference s t) o)) (sym same) (has_itself (set.difference s t) o)
        | inr before ↦ has_before (set.difference s t) o x (beyond s t x before was.1)
      ])
      (λ x h. elim (new_or_before (set.difference s t) o x h) as (λ _. Has (set.difference (set.insert s o) t) x) [
        | inl same ↦ subst (Has (set.difference (set.insert s o) t)) (sym same) (beyond (set.insert s o) t o (has_itself s o) apart)
        | inr before ↦ let was = of_beyond s t x before in beyond (set.insert s o) t x (has_before s o x was.0) was.1
      ]))
      ∙ set.len-insert objects_total (set.difference s t) o
      ∙ ap (λ b. cond b (set.len (set.difference s t)) (set.len (set.difference s t) + 1)) (false_of_not (set.contains (set.difference s t) o) (λ h. new (of_beyond s t o h).0))

nothing_beyond : set.len (set.difference (set.empty {R = object_cmp}) set.empty) ≡ 0
nothing_beyond =
    ap set.len (same_members (set.difference set.empty set.empty) set.empty (λ x h. (of_beyond set.empty set.empty x h).0) (λ x h. absurd (none_in_empty x h)))
    ∙ set.len-empty object_cmp

pub due_of_gifts : (gs : Gifts) → AreDistinct (map (λ (g : Gift). g.object) gs) → due_count (held_of gs) (given_of gs) ≡ alone_in gs
due_of_gifts [] once = let none = nothing_beyond in omega (arith, none)
due_of_gifts (g ∷ gs) once = by (due_of_gifts gs once.1) g.held (is_given g)
  where
    new : (test : Gift → Bool) → Has (objects_by test gs) g.object → ⊥
    new test h =
        let from = has_gift test gs g.object h in
        member_of_all (λ other. other ≢ g.object) (map (λ (g : Gift). g.object) gs) from.gift.object once.0 (map_member (λ (g : Gift). g.object) gs from.gift from.member) from.is

    by : due_count (held_of gs) (given_of gs) ≡ alone_in gs → (b c : Bool)
        → due_count (set_of (map (λ (g : Gift). g.object) (cond b (g ∷ filter (λ (g : Gift). g.held) gs) (filter (λ (g : Gift). g.held) gs)))) (set_of (map (λ (g : Gift). g.object) (cond c (g ∷ filter is_given gs) (filter is_given gs))))
        ≡ (if b then (if c then 0 else 1) else (if c then 1 else 0)) + alone_in gs
    by rest true true =
        let left = ap set.len (both_more (held_of gs) (given_of gs) g.object (new (λ (g : Gift). g.held))) in
        let right = ap set.len (both_more (given_of gs) (held_of gs) g.object (new is_given)) in
        omega (arith, rest, left, right)
    by rest true false =
        let left = left_more (held_of gs) (given_of gs) g.object (new (λ (g : Gift). g.held)) (new is_given) in
        let right = ap set.len (right_more (given_of gs) (held_of gs) g.object (new is_given)) in
        omega (arith, rest, left, right)
    by rest false true =
        let left = ap set.len (right_more (held_of gs) (given_of gs) g.object (new (λ (g : Gift). g.held))) in
        let right = left_more (given_of gs) (held_of gs) g.object (new is_given) (new (λ (g : Gift). g.held)) in
        omega (arith, rest, left, right)
    by rest false false = omega (arith, rest)

pub none_alone : (gs : Gifts) → alone_in (take 0 gs) ≡ 0
none_alone [] = refl
none_alone (g ∷ gs) = refl

pub few_taken : (gs : Gifts) (i : ℕ) → length (take i gs) ≤ i
few_taken [] zero = omega arith
few_taken [] (suc i) = omega arith
few_taken (g ∷ gs) zero = omega arith
few_taken (g ∷ gs) (suc i) = let rest = few_taken gs i in omega (arith, rest)
