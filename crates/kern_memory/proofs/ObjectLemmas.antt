-- What a table of objects is as a set.
use Rattle.std.proofs.Common.{◌≡◌, List, filter, true, false, Bool, cond, inl, inr, refl, ap, sym, ◌∙◌}
use Rattle.std.specs.Prelude.{not, ◌||◌, ◌&&◌}
use Rattle.std.specs.Ordering.{eq_by_cmp}
use Rattle.std.specs.List.{list_any}
use Rattle.std.specs.Cmp.{eq_by_cmp_equiv}
use Rattle.std.specs.FinSet as set
use Rattle.kern_model.specs.declared.object.Object.{Object}
use Rattle.kern_model.specs.ObjectOrder.{Objects, Has, object_cmp, set_of}
use Rattle.kern_model.specs.Kernel.{replaces}
use Rattle.kern_model.proofs.OrderLemmas.{objects_total, objects_apart}
use Rattle.kern_model.proofs.SetLemmas.{same_members, same_object, set_of_member, member_of_set, has_itself, has_before, new_or_before, has_retained, of_retained, test_of_same}
use Rattle.kern_model.proofs.TestLemmas.{either, of_left, of_right}
use Rattle.kern_model.proofs.GoneLemmas.{kept_member, member_kept}
use Rattle.kern_memory.proofs.EqLemmas.{object_eq, eq_is}

-- what stays of a list is what stays of the set
pub set_of_filter : (p : Object → Bool) (objects : List Object) → set_of (filter p objects) ≡ set.retain (set_of objects) p
set_of_filter p objects = same_members (set_of (filter p objects)) (set.retain (set_of objects) p)
    (λ x h. let was = kept_member p objects x (member_of_set (filter p objects) x h) in has_retained (set_of objects) p x (set_of_member objects x was.0) was.1)
    (λ x h. let was = of_retained (set_of objects) p x h in set_of_member (filter p objects) x (member_kept p objects x (member_of_set objects x was.0) was.1))

-- the set has what a search of the table finds
found : (ks : List Object) (o : Object) → set.contains (set_of ks) o ≡ list_any (object_eq o) ks
found ks o = set.contains-from_list objects_total ks o ∙ sym (ap (λ (f : Object → Bool). list_any f ks) (λ i x. eq_is o x i))

either_or : (b c : Bool) → cond b true c ≡ (b || c)
either_or true c = refl
either_or false c = refl

neither : (b c : Bool) → cond b false c ≡ (not b && c)
neither true c = refl
neither false c = refl

turned : (a b : Object) → object_eq a b ≡ eq_by_cmp object_cmp b a
turned a b = eq_is a b ∙ (eq_by_cmp_equiv objects_total).symm a b

-- a table with one more object
pub with_object : (ks fs : List Object) (o : Object) → ((q : Object) → list_any (object_eq q) fs ≡ cond (object_eq o q) true (list_any (object_eq q) ks)) → set_of fs ≡ set.insert (set_of ks) o
with_object ks fs o more = set.same_set objects_total objects_apart (set_of fs) (set.insert (set_of ks) o) (λ x.
    found fs x ∙ more x
    ∙ either_or (object_eq o x) (list_any (object_eq x) ks)
    ∙ ap (λ b. b || list_any (object_eq x) ks) (turned o x)
    ∙ ap (λ b. eq_by_cmp object_cmp x o || b) (sym (found ks x))
    ∙ sym (set.contains-insert objects_total (set_of ks) o x))

-- a table without an object
pub without_object : (ks fs : List Object) (o : Object) → ((q : Object) → list_any (object_eq q) fs ≡ cond (object_eq o q) false (list_any (object_eq q) ks)) → set_of fs ≡ set.remove (set_of ks) o
without_object ks fs o less = set.same_set objects_total objects_apart (set_of fs) (set.remove (set_of ks) o) (λ x.
    found fs x ∙ less x
    ∙ neither (object_eq o x) (list_any (object_eq x) ks)
    ∙ ap (λ b. not b && list_any (object_eq x) ks) (turned o x)
    ∙ ap (λ b. not (eq_by_cmp object_cmp x o) && b) (sym (found ks x))
    ∙ sym (set.contains-remove objects_total (set_of ks) o x))

tied : (a b : Object) → a ≡ b → eq_by_cmp object_cmp a b ≡ true
tied a b same = sym (test_of_same true a b (λ _. same) (λ _. refl))

-- what an object takes the place of leaves before it comes or after, but for itself
pub replaced_after : (s : Objects) (o : Object) → set.retain (set.insert s o) (λ x. not (replaces o x) || eq_by_cmp object_cmp o x) ≡ set.insert (set.retain s (λ x. not (replaces o x))) o
replaced_after s o = same_members (set.retain (set.insert s o) left) (set.insert (set.retain s stays) o)
    (λ x h.
    let was = of_retained (set.insert s o) left x h in
    elim (either (stays x) (eq_by_cmp object_cmp o x) was.1) as (λ _. Has (set.insert (set.retain s stays) o) x) [
      | inl apart ↦ elim (new_or_before s o x was.0) as (λ _. Has (set.insert (set.retain s stays) o) x) [
        | inl new ↦ rw new (has_itself (set.retain s stays) o)
        | inr before ↦ has_before (set.retain s stays) o x (has_retained s stays x before apart)
      ]
      | inr itself ↦ rw (sym (same_object o x itself)) (has_itself (set.retain s stays) o)
    ])
    (λ x h. elim (new_or_before (set.retain s stays) o x h) as (λ _. Has (set.retain (set.insert s o) left) x) [
      | inl new ↦ rw new (has_retained (set.insert s o) left o (has_itself s o) (of_right (stays o) (eq_by_cmp object_cmp o o) (tied o o refl)))
      | inr before ↦ let was = of_retained s stays x before in has_retained (set.insert s o) left x (has_before s o x was.0) (of_left (stays x) (eq_by_cmp object_cmp o x) was.1)
    ])
  where
    stays : Object → Bool
    stays x = not (replaces o x)

    left : Object → Bool
    left x = not (replaces o x) || eq_by_cmp object_cmp o x

-- an object that takes the place of none
pub replaces_none : (s : Objects) (o : Object) → ((x : Object) → replaces o x ≡ false) → set.insert s o ≡ set.insert (set.retain s (λ x. not (replaces o x))) o
replaces_none s o none = ap (λ t. set.insert t o) (same_members s (set.retain s (λ x. not (replaces o x)))
    (λ x h. has_retained s (λ y. not (replaces o y)) x h (ap not (none x)))
    (λ x h. (of_retained s (λ y. not (replaces o y)) x h).0))
