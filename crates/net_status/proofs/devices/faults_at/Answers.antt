use Rattle.std.proofs.Common.{ap, sym, ◌∙◌}
use Rattle.net_rows.specs.declared.rows.NameRow.{NameRow}
use Rattle.net_view.proofs.PortLemmas.{row_is, row_is_none}
use Rattle.net_status.proofs.devices.faults_at.Goals as goal

pub returns-in-Some : goal.returns-in-Some
returns-in-Some c = c.as_slice.ensures ∙ sym (ap (λ (r : NameRow). r.faults) (row_is c.args.inputs.now.conf.names c.args.name.now c.in-Some.row.now c.in-Some.ensures))

pub returns-in-None : goal.returns-in-None
returns-in-None c = sym (ap (λ (r : NameRow). r.faults) (row_is_none c.args.inputs.now.conf.names c.args.name.now c.in-None.ensures))
