use Rattle.std.proofs.Common.{◌≡◌, ◌-◌, List, length, Some, false, subst}
use Rattle.std.specs.Prelude.{slice_get}
use Rattle.given_objects.specs.declared.order.Placed.{Placed}
use Rattle.given_objects.specs.Inside.{listed}
use Rattle.given_objects.specs.Ordered.{is_coming, of_object}
use Rattle.given_objects.proofs.OrderedLemmas.{popped}
use Rattle.given_objects.proofs.order.drop_done.Goals as goal

pub returns-then-ends_done-clause-listed : goal.returns-then-ends_done-clause-listed
returns-then-ends_done-clause-listed c =
    let gs = listed c.args.table.now.entries in
    popped c.args.turn gs c.requires c.args.list.now.items c.pop-done.new.self.items c.pop-done.result c.pop-done.ensures.items
    (subst (λ (xs : List Placed). (p : Placed) → slice_get xs (length xs - 1) ≡ Some p → of_object (is_coming c.args.turn) gs p.object ≡ false) c.deref.ensures.value (c.ends_done.ensures c.if-ends_done.true))
