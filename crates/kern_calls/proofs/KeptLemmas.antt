-- What the calls leave alone, what loses its link, and what grounds VLANs.
use Rattle.std.proofs.Common.{arith, ℕ, ◌≡◌, ◌≤◌, ◌<◌, ◌++◌, inl, inr, List, [], ◌∷◌, Option, true, false, Bool, cond, Contains, length, filter, refl, ap, sym, subst, ◌∙◌}
use Rattle.std.specs.declared.cmp.Ordering.TheVariants.{Less}
use Rattle.std.specs.List.Sorted.{IsStrictlySortedBy}
use Rattle.std.specs.Cmp.{tied_itself}
use Rattle.std.specs.FinSet as set
use Rattle.kern_model.specs.declared.object.Mac.{Mac}
use Rattle.kern_model.specs.declared.object.LinkKind.TheVariants.{Vlan}
use Rattle.kern_model.specs.declared.object.Object.{Object}
use Rattle.kern_model.specs.declared.object.Object.TheVariants as object
use Rattle.kern_model.specs.declared.object.Call.{Call}
use Rattle.kern_model.specs.declared.object.Call.TheVariants.{Put, Take}
use Rattle.kern_model.specs.ObjectOrder.{Objects, Has, object_cmp}
use Rattle.kern_model.specs.Standing.{places_of, is_over, IsOver}
use Rattle.kern_model.specs.Kernel.{Devices, object_of, after_call}
use Rattle.kern_model.specs.Touched.{loses_link, is_touched, is_call}
use Rattle.kern_model.specs.CallOrder.{call_cmp, AreAdmitted, after_calls}
use Rattle.kern_model.proofs.OrderLemmas.{objects_total, calls_total}
use Rattle.kern_model.proofs.MemberLemmas.{here, there, member_of_all}
use Rattle.kern_model.proofs.SetLemmas.{same_object, same_members, none_in_empty}
use Rattle.kern_model.proofs.TestLemmas.{both, of_both, not_true, of_not, from_any}
use Rattle.kern_model.proofs.GoneLemmas.{is_over_of_test, test_of_is_over}
use Rattle.kern_model.proofs.TouchLemmas.{loses_link_with, loses_link_above, link_loses_link, taken_unwanted, touched_cases, taken_touched, put_touched}
use Rattle.kern_model.proofs.LeadLemmas.{own_take, taken_call, carries, is_own}
use Rattle.kern_calls.specs.Kept.{IsOverTaken, IsOffTaken, IsWholePart}
use Rattle.kern_calls.specs.Counted.{takes, puts}
use Rattle.kern_calls.specs.Due.{due_count}

-- what loses its link
pub over_taken : (held wanted : Objects) (name : List ℕ) → loses_link held wanted name ≡ true → IsOverTaken held wanted name
over_taken held wanted name h =
    let f = loses_link_with held wanted name h in
    record {
      base = f.base;
      kind = f.kind;
      taken = taken_unwanted held wanted (object.Link f.base f.kind) f.had f.unwanted (λ r. r);
      over = is_over_of_test held f.base name f.over;
    }

pub loses_link_over : (held wanted : Objects) (name : List ℕ) → IsOverTaken held wanted name → loses_link held wanted name ≡ true
loses_link_over held wanted name t = loses_link_above held wanted t.base name (link_loses_link held wanted t.base t.kind t.taken) (test_of_is_over held t.base name t.over)

-- the object of a call is touched
pub touched_call : (devices : Devices) (held wanted : Objects) (call : Call) → is_call devices held wanted call ≡ true → is_touched held wanted (object_of call) ≡ true
touched_call devices held wanted (Put o) h = put_touched held wanted o h
touched_call devices held wanted (Take o mtu mac) h = taken_touched held wanted o (taken_call devices held wanted o mtu mac h)

pub no_call : (devices : Devices) (held wanted : Objects) (call : Call) → Has held (object_of call) → Has wanted (object_of call) → IsOffTaken held wanted (object_of call) → is_call devices held wanted call ≡ true → ⊥
no_call devices held wanted call had is off due =
    elim (touched_cases held wanted (object_of call) had (touched_call devices held wanted call due)) as (λ _. ⊥) [
      | inl unwanted ↦ unwanted is
      | inr on ↦ let found = from_any (loses_link held wanted) (places_of (object_of call)) on in off found.passing found.member (over_taken held wanted found.passing found.passes)
    ]

pub part_is_off : (held wanted part : Objects) → IsWholePart held wanted part → (o : Object) → Has part o → IsOffTaken held wanted o
part_is_off held wanted part kept o h place at over =
    let f = loses_link_with held wanted place (loses_link_over held wanted place over) in
    f.unwanted (kept.stays (object.Link f.base f.kind) (kept.whole o place f.base f.kind h at f.had (is_over_of_test held f.base place f.over)))

-- no two members that pass: one passes at most
pub none_pass : {X : Type 0} (p : X → Bool) → (xs : List X) → ((x : X) → Contains xs x → p x ≡ true → ⊥) → length (filter p xs) ≡ 0
none_pass p [] none = refl
none_pass {X} p (x ∷ xs) none = at (none_pass p xs (λ y member. none y (there x xs y member))) (p x) refl
  where
    at : length (filter p xs) ≡ 0 → (b : Bool) → p x ≡ b → length (cond b (x ∷ filter p xs) (filter p xs)) ≡ 0
    at rest true is = absurd (none x (here x xs) is)
    at rest false is = rest

pub one_passes : (held wanted : Objects) (p : Call → Bool) → (calls : List Call) → IsStrictlySortedBy (call_cmp held wanted) calls → ((a b : Call) → Contains calls a → Contains calls b → p a ≡ true → p b ≡ true → a ≡ b)
    → length (filter p calls) ≤ 1
unfolding IsStrictlySortedBy
one_passes held wanted p [] sorted one = omega arith
one_passes held wanted p (c ∷ calls) sorted one = at (one_passes held wanted p calls sorted.1 (λ a b m n. one a b (there c calls a m) (there c calls b n))) (p c) refl
  where
    at : length (filter p calls) ≤ 1 → (b : Bool) → p c ≡ b → length (cond b (c ∷ filter p calls) (filter p calls)) ≤ 1
    at rest true is =
        let none = none_pass p calls (λ x member passes. cc (one c x (here c calls) (there c calls x member) is passes, member_of_all (λ y. call_cmp held wanted c y ≡ Less) calls x sorted.0 member, tied_itself (calls_total held wanted) c))
        in
        omega arith
    at rest false is = rest

pub one_put : (o : Object) (a b : Call) → puts o a ≡ true → puts o b ≡ true → a ≡ b
one_put o (Put x) (Put y) h g = ap Put (sym (same_object o x h) ∙ same_object o y g)
one_put o (Put x) (Take y mtu mac) h g = cc g
one_put o (Take x mtu mac) b h g = cc h

pub one_take : (devices : Devices) (held wanted : Objects) (o : Object) (a : Call) → is_call devices held wanted a ≡ true → takes o a ≡ true → a ≡ own_take devices o
one_take devices held wanted o (Put x) due h = cc h
one_take devices held wanted o (Take x mtu mac) due h =
    sym (is_own devices held wanted x mtu mac (carries devices held wanted x mtu mac due)) ∙ ap (own_take devices) (sym (same_object o x h))

-- calls that are admitted, a front and then the others
pub front_admitted : (devices : Devices) (objects : Objects) (front rest : List Call) → AreAdmitted devices objects (front ++ rest) → AreAdmitted devices objects front × AreAdmitted devices (after_calls objects front) rest
front_admitted devices objects [] rest h = (tt, h)
front_admitted devices objects (c ∷ front) rest h = let later = front_admitted devices (after_call objects c) front rest h.1 in ((h.0, later.0), later.1)

pub all_admitted : (devices : Devices) (objects : Objects) (front rest : List Call) → AreAdmitted devices objects front → AreAdmitted devices (after_calls objects front) rest → AreAdmitted devices objects (front ++ rest)
all_admitted devices objects [] rest h g = g
all_admitted devices objects (c ∷ front) rest h g = (h.0, all_admitted devices (after_call objects c) front rest h.1 g)

-- what is in one set and not in the other
of_beyond : (s t : Objects) (o : Object) → Has s o → set.len (set.difference s t) ≡ 0 → Has t o
of_beyond s t o h none = set_has (set.contains t o) refl
  where
    set_has : (b : Bool) → set.contains t o ≡ b → b ≡ true
    set_has true is = refl
    set_has false is =
        let no : Has t o → ⊥ = λ g. cc (g, is) in
        absurd (none_in_empty o (subst (λ r. Has r o) (set.empty_of_len (set.difference s t) none) (set.contains-difference objects_total s t o ∙ of_both (set.contains s o) _ h (of_not (set.contains t o) no))))

pub same_if_none_due : (held wanted : Objects) → due_count held wanted ≡ 0 → held ≡ wanted
same_if_none_due held wanted none =
    same_members held wanted (λ o h. of_beyond held wanted o h (omega arith)) (λ o h. of_beyond wanted held o h (omega arith))

nothing_beyond : (s : Objects) → set.len (set.difference s s) ≡ 0
nothing_beyond s = ap set.len (same_members (set.difference s s) set.empty (λ o h. let parts = both (set.contains s o) _ (sym (set.contains-difference objects_total s s o) ∙ h) in absurd (not_true (set.contains s o) parts.1 parts.0))
    (λ o h. absurd (none_in_empty o h))) ∙ set.len-empty object_cmp

pub none_due_if_same : (held wanted : Objects) → held ≡ wanted → due_count held wanted ≡ 0
none_due_if_same held wanted same = subst (λ s. due_count held s ≡ 0) same (let none = nothing_beyond held in omega arith)

-- levels rise from a base to the names over it
module _ (objects : Objects) (level : List ℕ → ℕ) (rises : (name lower : List ℕ) (id : ℕ) (mac : Option Mac) → Has objects (object.Link name (Vlan lower id mac)) → level lower < level name) where
  no_lower : (base name : List ℕ) → IsOver objects base name → level base ≤ level name
  no_lower base name IsOver.itself = omega arith
  no_lower base name (IsOver.above n lower id mac held p) = let below = no_lower base lower p in let step = rises n lower id mac held in omega arith

  pub grounded : (name lower : List ℕ) (id : ℕ) (mac : Option Mac) → Has objects (object.Link name (Vlan lower id mac)) → is_over objects name lower ≡ true → ⊥
  grounded name lower id mac held over = let above = no_lower name lower (is_over_of_test objects name lower over) in let step = rises name lower id mac held in omega arith
