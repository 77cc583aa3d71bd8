-- Sets of objects and lists of their members.
use Rattle.std.proofs.Common.{arith, ◌≡◌, ◌≤◌, ◌+◌, ◌-◌, ◌⊎◌, inl, inr, List, [], ◌∷◌, Bool, true, cond, Contains, sym, ap, subst, ◌∙◌}
use Rattle.std.specs.Prelude.{◌&&◌, not}
use Rattle.std.specs.Ordering.{eq_by_cmp, is_eq}
use Rattle.std.specs.Cmp.{Equal-is, eq_by_cmp_equiv, tied_itself}
use Rattle.std.specs.FinSet as set
use Rattle.std.proofs.lemmas.Map.Views.{list_any-from_Contains, Contains-from_any}
use Rattle.kern_model.specs.declared.object.Object.{Object}
use Rattle.kern_model.specs.ObjectOrder.{object_cmp, Objects, Has}
use Rattle.kern_model.proofs.OrderLemmas.{objects_total, objects_apart}
use Rattle.kern_model.proofs.TestLemmas.{both, of_both, either, of_left, of_right, not_true, of_not, false_of_not, true_or_not, true_of_both_ways}

pub same_object : (a b : Object) → eq_by_cmp object_cmp a b ≡ true → a ≡ b
same_object a b h = objects_apart a b ((Equal-is (object_cmp a b)).0 h)

pub set_of_member : (xs : List Object) (o : Object) → Contains xs o → set.contains (set.from_list {R = object_cmp} xs) o ≡ true
set_of_member xs o h = set.contains-from_list objects_total xs o ∙ list_any-from_Contains (eq_by_cmp_equiv objects_total) o xs h

pub member_of_set : (xs : List Object) (o : Object) → set.contains (set.from_list {R = object_cmp} xs) o ≡ true → Contains xs o
member_of_set xs o h = Contains-from_any same_object o xs (sym (set.contains-from_list objects_total xs o) ∙ h)

pub set_of_item : (s : Objects) (o : Object) → Contains (set.items s) o → set.contains s o ≡ true
set_of_item s o h = set.contains-items s o ∙ list_any-from_Contains (eq_by_cmp_equiv objects_total) o (set.items s) h

pub item_of_set : (s : Objects) (o : Object) → set.contains s o ≡ true → Contains (set.items s) o
item_of_set s o h = Contains-from_any same_object o (set.items s) (sym (set.contains-items s o) ∙ h)

pub same_or_other : (a b : Object) → (a ≡ b) ⊎ (a ≡ b → ⊥)
same_or_other a b = elim (true_or_not (eq_by_cmp object_cmp a b)) as (λ _. (a ≡ b) ⊎ (a ≡ b → ⊥)) [
  | inl tied ↦ inl (same_object a b tied)
  | inr other ↦ inr (λ same. other (subst (λ x. eq_by_cmp object_cmp a x ≡ true) same (ap is_eq (tied_itself objects_total a))))
]

-- an answer that tells whether two objects are one is that of their order
pub test_of_same : (b : Bool) (x y : Object) → (b ≡ true → x ≡ y) → (x ≡ y → b ≡ true) → b ≡ eq_by_cmp object_cmp x y
test_of_same b x y to back = true_of_both_ways b (eq_by_cmp object_cmp x y) (λ h. subst (λ z. eq_by_cmp object_cmp x z ≡ true) (to h) (ap is_eq (tied_itself objects_total x))) (λ h. back (same_object x y h))

-- insertions
pub has_itself : (s : Objects) (o : Object) → Has (set.insert s o) o
has_itself s o = set.contains-insert objects_total s o o ∙ of_left (eq_by_cmp object_cmp o o) (set.contains s o) (ap is_eq (tied_itself objects_total o))

pub has_before : (s : Objects) (o x : Object) → Has s x → Has (set.insert s o) x
has_before s o x h = set.contains-insert objects_total s o x ∙ of_right (eq_by_cmp object_cmp x o) (set.contains s x) h

pub new_or_before : (s : Objects) (o x : Object) → Has (set.insert s o) x → (x ≡ o) ⊎ Has s x
new_or_before s o x h =
    elim (either (eq_by_cmp object_cmp x o) (set.contains s x) (sym (set.contains-insert objects_total s o x) ∙ h)) as (λ _. (x ≡ o) ⊎ Has s x) [
      | inl same ↦ inl (same_object x o same)
      | inr before ↦ inr before
    ]

-- removals
pub has_without : (s : Objects) (o x : Object) → Has s x → (x ≡ o → ⊥) → Has (set.remove s o) x
has_without s o x h other = set.contains-remove objects_total s o x ∙ of_both (not (eq_by_cmp object_cmp x o)) (set.contains s x) (of_not (eq_by_cmp object_cmp x o) (λ same. other (same_object x o same))) h

pub of_without : (s : Objects) (o x : Object) → Has (set.remove s o) x → Has s x × (x ≡ o → ⊥)
of_without s o x h =
    let parts = both (not (eq_by_cmp object_cmp x o)) (set.contains s x) (sym (set.contains-remove objects_total s o x) ∙ h) in
    (parts.1, λ same. not_true (eq_by_cmp object_cmp x o) parts.0 (subst (λ y. eq_by_cmp object_cmp x y ≡ true) same (ap is_eq (tied_itself objects_total x))))

-- what is retained
retained : (s : Objects) (p : Object → Bool) (x : Object) → set.contains (set.retain s p) x ≡ (set.contains s x && p x)
retained s p x = set.contains-retain s p x (λ y tied. ap p (sym (objects_apart x y tied)))

pub has_retained : (s : Objects) (p : Object → Bool) (x : Object) → Has s x → p x ≡ true → Has (set.retain s p) x
has_retained s p x h passes = retained s p x ∙ of_both (set.contains s x) (p x) h passes

pub of_retained : (s : Objects) (p : Object → Bool) (x : Object) → Has (set.retain s p) x → Has s x × (p x ≡ true)
of_retained s p x h = both (set.contains s x) (p x) (sym (retained s p x) ∙ h)

-- sets with the same members are one
pub same_members : (s t : Objects) → ((x : Object) → Has s x → Has t x) → ((x : Object) → Has t x → Has s x) → s ≡ t
same_members s t to back = set.same_set objects_total objects_apart s t (λ x. true_of_both_ways (set.contains s x) (set.contains t x) (to x) (back x))

pub none_in_empty : (x : Object) → Has set.empty x → ⊥
none_in_empty x h = cc (h, set.contains-empty object_cmp x)

-- sizes
pub size_without : (s : Objects) (o : Object) → Has s o → set.len (set.remove s o) + 1 ≡ set.len s
size_without s o h =
    let less : set.len (set.remove s o) ≡ set.len s - 1 = set.len-remove objects_total s o ∙ ap (λ b. cond b (set.len s - 1) (set.len s)) h in
    let some : set.len s ≡ 0 → ⊥ = λ none. none_in_empty o (subst (λ t. Has t o) (set.empty_of_len s none) h) in
    omega arith

size_of_list : (xs : List Object) (t : Objects) → ((x : Object) → Has (set.from_list {R = object_cmp} xs) x → Has t x) → set.len (set.from_list {R = object_cmp} xs) ≤ set.len t
size_of_list [] t within = let none = set.len-empty object_cmp in omega arith
size_of_list (x ∷ xs) t within =
    let s = set.from_list {R = object_cmp} xs in
    elim (true_or_not (set.contains s x)) as (λ _. set.len (set.insert s x) ≤ set.len t) [
      | inl again ↦
          let same : set.len (set.insert s x) ≡ set.len s = set.len-insert objects_total s x ∙ ap (λ b. cond b (set.len s) (set.len s + 1)) again in
          let before = size_of_list xs t (λ y h. within y (has_before s x y h)) in
          omega arith
      | inr new ↦
          let more : set.len (set.insert s x) ≡ set.len s + 1 = set.len-insert objects_total s x ∙ ap (λ b. cond b (set.len s) (set.len s + 1)) (false_of_not (set.contains s x) new) in
          let less = size_without t x (within x (has_itself s x)) in
          let before = size_of_list xs (set.remove t x) (λ y h. has_without t x y (within y (has_before s x y h)) (λ same. new (subst (Has s) same h))) in
          omega arith
    ]

listed : (s : Objects) → s ≡ set.from_list {R = object_cmp} (set.items s)
listed s = same_members s (set.from_list (set.items s)) (λ x h. set_of_member (set.items s) x (item_of_set s x h)) (λ x h. set_of_item s x (member_of_set (set.items s) x h))

-- a set within another is no larger
pub size_within : (s t : Objects) → ((x : Object) → Has s x → Has t x) → set.len s ≤ set.len t
size_within s t within =
    let same = listed s in
    let before = size_of_list (set.items s) t (λ x h. within x (subst (λ r. Has r x) (sym same) h)) in
    subst (λ r. set.len r ≤ set.len t) (sym same) before

-- a set within another that has one more is smaller
pub size_within_but : (s t : Objects) (o : Object) → ((x : Object) → Has s x → Has t x) → Has t o → (Has s o → ⊥) → set.len s + 1 ≤ set.len t
size_within_but s t o within is not_in =
    let before = size_within s (set.remove t o) (λ x h. has_without t o x (within x h) (λ same. not_in (subst (Has s) same h))) in
    let less = size_without t o is in
    omega arith
