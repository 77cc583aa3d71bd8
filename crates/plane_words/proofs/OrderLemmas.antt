-- A set has one strictly sorted list.
use Rattle.std.proofs.Common.{◌≡◌, List, Bool}
use Rattle.std.specs.declared.cmp.Ordering.{Ordering}
use Rattle.std.specs.Cmp.{IsTotalOrder, both_ways}
use Rattle.std.proofs.lemmas.Map.Lookups.{btree_set_from_contains}
use Rattle.std.proofs.lemmas.Map.Views.{btree_set_contains_iff}
use Rattle.plane_words.specs.InOrder.{ListsInOrder, TellsApart}

pub one_list : {K : Type 0} {cmp : K → K → Ordering} → IsTotalOrder cmp → (member : K → Bool) (xs ys : List K) → TellsApart cmp → ListsInOrder cmp member xs → ListsInOrder cmp member ys → xs ≡ ys
one_list total member xs ys apart a b =
    btree_set_from_contains total (record { keys = xs }) (record { keys = ys }) a.sorted b.sorted (λ q.
    let i = btree_set_contains_iff total apart (record { keys = xs }) q in
    let j = btree_set_contains_iff total apart (record { keys = ys }) q in
    both_ways _ _ (λ h. j.1 (b.complete q (a.sound q (i.0 h)))) (λ h. i.1 (a.complete q (b.sound q (j.0 h))))) apart
