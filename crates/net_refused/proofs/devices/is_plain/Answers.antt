use Rattle.std.proofs.Common.{◌≡◌, ap, sym, ◌∙◌, rules}
use Rattle.std.specs.Prelude.{is_none}
use Rattle.net_rows.specs.Dotted.{vlan_parts}
use Rattle.net_rows.specs.declared.rows.NameRow.{NameRow}
use Rattle.net_rules.specs.Rows.{is_plain_kind}
use Rattle.net_view.proofs.PortLemmas.{row_is, row_is_none, plain_without_row}
use Rattle.net_refused.proofs.devices.is_plain.Goals as goal

pub returns-in-Some : goal.returns-in-Some
returns-in-Some c = c.is_plain_kind.ensures ∙ sym (ap (λ (r : NameRow). is_plain_kind r.kind) (row_is c.args.inputs.now.inputs.conf.names c.args.name.now c.in-Some.row.now c.in-Some.ensures))

pub returns-in-None : goal.returns-in-None
returns-in-None c =
    let none : c.is_none.result ≡ is_none (vlan_parts c.args.name.now) = search rules in
    none ∙ plain_without_row (vlan_parts c.args.name.now) ∙ sym (ap (λ (r : NameRow). is_plain_kind r.kind) (row_is_none c.args.inputs.now.inputs.conf.names c.args.name.now c.in-None.ensures))
