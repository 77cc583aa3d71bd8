-- Objects are equal where they are one.
use Rattle.std.proofs.Common.{rules, ◌≡◌, ◌≢◌, List, [], ◌∷◌, Bool, true, false, sym, subst}
use Rattle.std.specs.Ordering.{eq_by_cmp}
use Rattle.std.specs.List.{AllByRecursion, IsDistinct}
use Rattle.std.proofs.lemmas.Map.Keys.{IsDistinct-head, IsDistinct-tail}
use Rattle.plane_words.specs.Distinct.{AreDistinct}
use Rattle.kern_model.specs.declared.object.Object.{Object}
use Rattle.kern_model.specs.declared.object.Object.TheVariants as object
use Rattle.kern_model.specs.contracts.object.ObjectPartialEq.TheImpl as derived
use Rattle.kern_model.specs.ObjectOrder.{object_cmp}
use Rattle.kern_model.proofs.SetLemmas.{test_of_same}

-- the equality by which a table of objects looks up
abbrev pub object_eq : Object → Object → Bool
object_eq a b = derived.ghosts.eq a b

pub same_of_eq : (a b : Object) → object_eq a b ≡ true → a ≡ b
same_of_eq (object.Link n k) (object.Link m l) h = search rules
same_of_eq (object.Mtu n k) (object.Mtu m l) h = search rules
same_of_eq (object.Mac n k) (object.Mac m l) h = search rules
same_of_eq (object.Master n k) (object.Master m l) h = search rules
same_of_eq (object.Vlan a b c d e) (object.Vlan f g i j k) h = search rules
same_of_eq (object.Up n) (object.Up m) h = search rules
same_of_eq (object.Address n k) (object.Address m l) h = search rules
same_of_eq (object.Route n) (object.Route m) h = search rules
same_of_eq a b h = cc h

eq_itself : (a : Object) → object_eq a a ≡ true
eq_itself a = search rules

pub eq_of_same : (a b : Object) → a ≡ b → object_eq a b ≡ true
eq_of_same a b same = subst (λ x. object_eq a x ≡ true) same (eq_itself a)

-- it is that of their order
pub eq_is : (a b : Object) → object_eq a b ≡ eq_by_cmp object_cmp a b
eq_is a b = test_of_same (object_eq a b) a b (same_of_eq a b) (eq_of_same a b)

-- keys that are not equal are distinct
apart_of_unequal : (o : Object) → (os : List Object) → AllByRecursion (λ x. object_eq o x ≡ false) os → AllByRecursion (λ x. x ≢ o) os
apart_of_unequal o [] all = tt
apart_of_unequal o (x ∷ xs) all = (λ same. cc (eq_of_same o x (sym same), all.0), apart_of_unequal o xs all.1)

pub distinct_of_unique : (os : List Object) → IsDistinct object_eq os → AreDistinct os
distinct_of_unique [] unique = tt
distinct_of_unique (o ∷ os) unique = (apart_of_unequal o os (IsDistinct-head object_eq o os unique), distinct_of_unique os (IsDistinct-tail object_eq o os unique))
