use Rattle.std.proofs.Common.{sym, ◌∙◌}
use Rattle.ubus_state.specs.Rising.{object_number}
use Rattle.ubus_state.proofs.RisingLemmas.{found_row, found_no_row}
use Rattle.ubus_state.proofs.object_rows.object_numbered.Goals as goal

pub returns-in-Some : goal.returns-in-Some
returns-in-Some c = c.object_of_number.ensures ∙ sym (found_row object_number c.args.number c.args.objects.now c.lower_objects-place.result c.in-Some.object c.requires c.lower_objects-place.ensures c.in-Some.ensures.lookup)

pub returns-in-None : goal.returns-in-None
returns-in-None c = sym (found_no_row object_number c.args.number c.args.objects.now c.lower_objects-place.result c.lower_objects-place.ensures c.in-None.ensures.lookup)
