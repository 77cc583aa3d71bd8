-- Keys are equal where their objects are.
use Rattle.std.proofs.Common.{◌≡◌, true, ap}
use Rattle.std.specs.Ordering.{is_eq}
use Rattle.std.specs.Cmp.{tied_itself}
use Rattle.kern_model.specs.declared.object.Object.{Object}
use Rattle.kern_model.proofs.OrderLemmas.{objects_total}
use Rattle.kern_model.proofs.SetLemmas.{same_object}
use Rattle.given_objects.specs.declared.key.GiftKey.{GiftKey}
use Rattle.given_objects.specs.Keys.{key_eq}

pub key_same : (a b : GiftKey) → key_eq a b ≡ true → a ≡ b
key_same a b h = ap (λ (o : Object). let k : GiftKey = record { 0 = o } in k) (same_object a.0 b.0 h)

pub key_itself : (a : GiftKey) → key_eq a a ≡ true
key_itself a = ap is_eq (tied_itself objects_total a.0)
