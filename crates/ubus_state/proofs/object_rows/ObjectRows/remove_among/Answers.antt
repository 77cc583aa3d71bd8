use Rattle.std.proofs.Common.{ℕ, get_or, List, not, true, filter, refl, sym, ap, ◌∙◌}
use Rattle.ubus_table.specs.declared.rows.Object.{Object}
use Rattle.ubus_table.specs.Table.{has_number}
use Rattle.ubus_state.proofs.ListLemmas.{filter_every}
use Rattle.ubus_state.proofs.ObjectLemmas.{but_more}
use Rattle.ubus_state.proofs.object_rows.ObjectRows.remove_among.Goals as goal

pub loop-number-init : goal.loop-number-init
loop-number-init c = record { rows = sym (filter_every (λ (object : Object). true) (λ object. refl) c.args.self.now.rows.items); next = refl }

pub loop-number-preserved : goal.loop-number-preserved
loop-number-preserved c =
    let numbers : List ℕ = c.args.numbers.now in
    let index : ℕ = c.loop-number.number-index in
    record {
      rows = c.remove.ensures.rows ∙ ap (filter (λ (object : Object). not (has_number (get_or numbers index 0) object))) c.loop-number.invariant.rows ∙ but_more numbers index c.args.self.now.rows.items c.loop-number-test.true;
      next = c.remove.ensures.next ∙ c.loop-number.invariant.next;
    }
