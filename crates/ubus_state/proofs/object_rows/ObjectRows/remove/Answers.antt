use Rattle.std.proofs.Common.{List, Some, None, ◌≡◌, ◌<◌, length, sym, ap, subst, ◌∙◌}
use Rattle.std.specs.List.{position}
use Rattle.ubus_table.specs.Table.{event_object, has_number}
use Rattle.ubus_table.specs.declared.rows.Object.{Object}
use Rattle.ubus_state.specs.Rising.{object_number}
use Rattle.ubus_state.proofs.ListLemmas.{first_none}
use Rattle.ubus_state.proofs.ObjectLemmas.{kept_whole, number_there, removed_numbered}
use Rattle.ubus_state.proofs.RisingLemmas.{climbs}
use Rattle.ubus_state.proofs.object_rows.ObjectRows.remove.Goals as goal

pub returns-in-Some-clause-rows : goal.returns-in-Some-clause-rows
returns-in-Some-clause-rows c =
    let rows : List Object = c.args.self.now.rows.items in
    let at : position (has_number c.args.number) rows ≡ Some c.in-Some.place = ap (position (has_number c.args.number)) (sym c.deref.ensures.value) ∙ sym c.in-Some.ensures.place in
    let within : c.in-Some.place < length rows = subst (λ (rs : List Object). c.in-Some.place < length rs) c.deref.ensures.value c.in-Some.ensures.within in
    c.take.ensures.rows ∙ removed_numbered object_number rows c.in-Some.place c.args.number event_object (climbs object_number rows c.args.self.now.rising.0) within
    (number_there object_number rows c.in-Some.place c.args.number event_object at)

pub returns-in_default-clause-rows : goal.returns-in_default-clause-rows
returns-in_default-clause-rows c =
    let rows : List Object = c.args.self.now.rows.items in
    let at : position (has_number c.args.number) rows ≡ None = ap (position (has_number c.args.number)) (sym c.deref.ensures.value) ∙ sym c.place_numbered.ensures.place ∙ c.in_default.is in
    kept_whole (has_number c.args.number) rows (first_none (has_number c.args.number) rows at)
