use Rattle.std.proofs.Common.{sym, ◌∙◌}
use Rattle.ubus_state.specs.Rising.{client_number}
use Rattle.ubus_state.proofs.RisingLemmas.{found_row, found_no_row}
use Rattle.ubus_state.proofs.client_rows.client_numbered.Goals as goal

pub returns-in-Some : goal.returns-in-Some
returns-in-Some c = c.client_of_number.ensures ∙ sym (found_row client_number c.args.number c.args.clients.now c.lower_clients-place.result c.in-Some.client c.requires c.lower_clients-place.ensures c.in-Some.ensures.lookup)

pub returns-in-None : goal.returns-in-None
returns-in-None c = sym (found_no_row client_number c.args.number c.args.clients.now c.lower_clients-place.result c.lower_clients-place.ensures c.in-None.ensures.lookup)
