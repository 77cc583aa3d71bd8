use Rattle.std.proofs.Common.{Bool, sym, ap, ◌∙◌}
use Rattle.std.specs.Prelude.{is_some}
use Rattle.ubus_table.specs.Clients.{is_handed_out}
use Rattle.ubus_state.specs.declared.calls.OpenCall.{OpenCall}
use Rattle.ubus_state.specs.Calls.{call_of}
use Rattle.ubus_state.proofs.ListLemmas.{list_any_map}
use Rattle.ubus_state.proofs.RisingLemmas.{some_found}
use Rattle.ubus_state.proofs.call_rows.CallRows.is_handed_out.Goals as goal

pub returns : goal.returns
returns c =
    let passes : OpenCall → Bool = λ call. is_handed_out c.args.caller c.args.seq c.args.object (call_of call) in
    c.is_some.ensures
    ∙ ap is_some c.handed_out_call.ensures
    ∙ some_found passes c.args.self.now.rows.items
    ∙ sym (list_any_map (is_handed_out c.args.caller c.args.seq c.args.object) call_of c.args.self.now.rows.items)
