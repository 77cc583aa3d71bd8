-- How the objects at a name leave a table, from its end on.
use Rattle.std.proofs.Common.{arith, ◌≡◌, ◌<◌, ◌≤◌, ℕ, ◌+◌, List, get_or, false, Bool, length, sym, ap, ◌∙◌, subst}
use Rattle.std.specs.Prelude.{not, swap_remove, Option, Some, IfSome}
use Rattle.std.proofs.lemmas.Grind.{elements}
use Rattle.std.specs.FinSet as set
use Rattle.kern_model.specs.declared.object.Object.{Object}
use Rattle.kern_model.specs.AdmissionTest.{is_at}
use Rattle.kern_model.specs.ObjectOrder.{Objects, set_of}
use Rattle.kern_model.proofs.SetLemmas.{same_members, has_retained, of_retained, has_without, of_without, member_of_set}

-- what holds of a value that is there
pub some_of : {X : Type 0} (P : X → Type 0) {found : Option X} (x : X) → found ≡ Some x → IfSome found P → P x
some_of P x is holds = subst (λ found. IfSome found P) is holds

-- no object from a place on is at the name
abbrev pub NoneFrom : List ℕ → List Object → ℕ → Type 0
NoneFrom name ks i = (k : ℕ) (d : Object) → i ≤ k → k < length ks → is_at name (get_or ks k d) ≡ false

-- what does not stay makes no difference to what stays
pub retained_without : (s : Objects) (v : Object) (p : Object → Bool) → p v ≡ false → set.retain (set.remove s v) p ≡ set.retain s p
retained_without s v p goes = same_members (set.retain (set.remove s v) p) (set.retain s p)
    (λ x h. let was = of_retained (set.remove s v) p x h in has_retained s p x (of_without s v x was.0).0 was.1)
    (λ x h. let was = of_retained s p x h in has_retained (set.remove s v) p x (has_without s v x was.0 (λ same. cc (sym was.1 ∙ ap p same ∙ goes))) was.1)

-- one more place
pub one_more : (name : List ℕ) (ks : List Object) (i : ℕ) (o : Object) → NoneFrom name ks (i + 1) → i < length ks → o ≡ get_or ks i o → is_at name o ≡ false → NoneFrom name ks i
one_more name ks i o none inside is apart k d from within = grind (arith, elements)

-- the last object takes the place of the one there, and none behind the place is at the name
pub none_after : (name : List ℕ) (ks : List Object) (i : ℕ) (o : Object) → NoneFrom name ks (i + 1) → NoneFrom name (swap_remove ks i o) i
none_after name ks i o none k d from within = grind (arith, elements)

-- where none is at the name, all stay
pub all_stay : (name : List ℕ) (ks : List Object) → NoneFrom name ks 0 → set_of ks ≡ set.retain (set_of ks) (λ o. not (is_at name o))
all_stay name ks none = same_members (set_of ks) (set.retain (set_of ks) (λ o. not (is_at name o)))
    (λ x h. let at = member_of_set ks x h in
    has_retained (set_of ks) (λ o. not (is_at name o)) x h (ap (λ o. not (is_at name o)) (sym at.2) ∙ ap not (none at.0 x (omega arith) at.1)))
    (λ x h. (of_retained (set_of ks) (λ o. not (is_at name o)) x h).0)
