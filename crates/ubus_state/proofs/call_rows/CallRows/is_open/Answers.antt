use Rattle.std.proofs.Common.{List, sym, ap, ◌∙◌}
use Rattle.ubus_table.specs.Calls.{is_named}
use Rattle.ubus_state.specs.declared.calls.OpenCall.{OpenCall}
use Rattle.ubus_state.specs.Calls.{call_of, has_name}
use Rattle.ubus_state.proofs.ListLemmas.{list_any_map}
use Rattle.ubus_state.proofs.NamedLemmas.{any_kept, has_any, some_next}
use Rattle.ubus_state.proofs.call_rows.CallRows.is_open.Goals as goal

pub returns : goal.returns
returns c =
    let rows : List OpenCall = c.args.self.now.rows.items in
    c.is_some.ensures
    ∙ some_next c.named.result c.next.new.self c.next.result c.next.ensures.steps
    ∙ ap has_any c.named.ensures
    ∙ sym (any_kept (has_name c.args.caller c.args.seq) rows)
    ∙ sym (list_any_map (is_named c.args.caller c.args.seq) call_of rows)
