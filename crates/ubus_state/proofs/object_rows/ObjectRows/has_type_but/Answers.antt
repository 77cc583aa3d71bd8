use Rattle.std.proofs.Common.{ℕ, ◌==◌, Bool, not, sym, ◌∙◌}
use Rattle.std.specs.Prelude.{◌&&◌}
use Rattle.ubus_table.specs.declared.rows.Object.{Object}
use Rattle.ubus_table.specs.Table.{has_number}
use Rattle.ubus_state.specs.Pairs.{has_first, type_pair}
use Rattle.ubus_state.proofs.ListLemmas.{list_any_filter}
use Rattle.ubus_state.proofs.PairLemmas.{and_either, any_alike, any_row}
use Rattle.ubus_state.proofs.object_rows.ObjectRows.has_type_but.Goals as goal

pub returns : goal.returns
returns c =
    let typed : Object → Bool = λ object. object.objtype == c.args.objtype in
    let stays : Object → Bool = λ object. not (has_number c.args.left object) in
    c.has_pair_but.ensures
    ∙ any_row type_pair (λ (pair : ℕ × ℕ). has_first c.args.objtype pair && not (pair.1 == c.args.left)) c.args.self.now.by_type c.args.self.now.rows.items c.args.self.now.typed
    ∙ any_alike (λ object. typed object && stays object) (λ object. stays object && typed object) (λ object. and_either (typed object) (stays object)) c.args.self.now.rows.items
    ∙ sym (list_any_filter typed stays c.args.self.now.rows.items)
