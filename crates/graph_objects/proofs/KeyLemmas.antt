-- Keys are equal where their parts are.
use Rattle.std.proofs.Common.{◌≡◌, true, Bool, refl}
use Rattle.std.specs.Prelude.{◌&&◌, bytes_eq, nat_eq}
use Rattle.std.proofs.lemmas.Bool.Decides.{Decides-eqb}
use Rattle.kern_model.proofs.TestLemmas.{both, of_both, bytes_same, same_bytes}
use Rattle.graph_objects.specs.declared.key.ObjectKey.{ObjectKey}

abbrev pub key_eq : ObjectKey → ObjectKey → Bool
key_eq a b = nat_eq a.rank b.rank && (bytes_eq a.name b.name && nat_eq a.id b.id)

pub key_same : (a b : ObjectKey) → key_eq a b ≡ true → a ≡ b
key_same a b h =
    let first = both (nat_eq a.rank b.rank) (bytes_eq a.name b.name && nat_eq a.id b.id) h in
    let second = both (bytes_eq a.name b.name) (nat_eq a.id b.id) first.1 in
    let ranks : a.rank ≡ b.rank = (Decides-eqb a.rank b.rank).0 first.0 in
    let names : a.name ≡ b.name = bytes_same a.name b.name second.0 in
    let ids : a.id ≡ b.id = (Decides-eqb a.id b.id).0 second.1 in
    λ i. record { rank = ranks i; name = names i; id = ids i }

pub key_itself : (a : ObjectKey) → key_eq a a ≡ true
key_itself a =
    of_both (nat_eq a.rank a.rank) (bytes_eq a.name a.name && nat_eq a.id a.id) ((Decides-eqb a.rank a.rank).1 refl)
    (of_both (bytes_eq a.name a.name) (nat_eq a.id a.id) (same_bytes a.name a.name refl) ((Decides-eqb a.id a.id).1 refl))
