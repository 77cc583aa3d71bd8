use Rattle.std.proofs.Common.{◌==◌, ap, ◌∙◌}
use Rattle.std.specs.Prelude.{is_some}
use Rattle.ubus_table.specs.declared.rows.Client.{Client}
use Rattle.ubus_state.proofs.RisingLemmas.{some_found, some_read}
use Rattle.ubus_state.proofs.client_rows.ClientRows.contains.Goals as goal

pub returns : goal.returns
returns c =
    c.is_some.ensures
    ∙ some_read c.find.result
    ∙ ap is_some c.find.ensures
    ∙ some_found (λ (client : Client). client.number == c.args.number) c.args.self.now.rows.items
