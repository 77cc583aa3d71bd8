use Rattle.std.proofs.Common.{ap, sym, ◌∙◌}
use Rattle.net_rows.specs.declared.rows.NameRow.{NameRow}
use Rattle.net_view.proofs.PortLemmas.{row_is, row_is_none}
use Rattle.net_status.specs.Devices.{kind_word}
use Rattle.net_status.proofs.devices.kind_word.Goals as goal

pub returns-in-Some : goal.returns-in-Some
returns-in-Some c = c.word_of.ensures ∙ sym (ap (λ (r : NameRow). kind_word r.kind) (row_is c.args.inputs.now.conf.names c.args.name.now c.in-Some.row.now c.in-Some.ensures))

pub returns-in-None : goal.returns-in-None
returns-in-None c = c.word_without_row.ensures ∙ sym (ap (λ (r : NameRow). kind_word r.kind) (row_is_none c.args.inputs.now.conf.names c.args.name.now c.in-None.ensures))
