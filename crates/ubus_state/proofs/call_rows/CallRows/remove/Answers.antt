use Rattle.std.proofs.Common.{sym, ap, ◌∙◌}
use Rattle.ubus_state.specs.Calls.{call_of, calls_of}
use Rattle.ubus_state.proofs.ListLemmas.{remove_of_map}
use Rattle.ubus_state.proofs.call_rows.CallRows.remove.Goals as goal

pub returns-then-place-len : goal.returns-then-place-len
returns-then-place-len c = ap calls_of c.take.ensures ∙ sym (remove_of_map call_of c.args.self.now.rows.items c.args.place)
