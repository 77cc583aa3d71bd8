use Rattle.std.proofs.Common.{sym, ◌∙◌}
use Rattle.net_rows.proofs.DottedLemmas.{without_dot, by_cut, no_lower, no_id, both_parts}
use Rattle.net_rows.proofs.dotted.vlan_parts.Goals as goal

pub returns-in_default : goal.returns-in_default
returns-in_default c = without_dot c.args.name.now c.text.result.now c.text.ensures.bytes c.in_default.ensures

pub returns-in_default-read_name : goal.returns-in_default-read_name
returns-in_default-read_name c = sym (by_cut c.args.name.now c.text.result.now c.in-Some.front.now c.in-Some.digits.now c.text.ensures.bytes c.in-Some.ensures ∙ no_lower c.in-Some.front.now _ c.in_default-read_name.ensures.none)

pub returns-in_default-vlan_id : goal.returns-in_default-vlan_id
returns-in_default-vlan_id c = sym (by_cut c.args.name.now c.text.result.now c.in-Some.front.now c.in-Some.digits.now c.text.ensures.bytes c.in-Some.ensures ∙ no_id c.in-Some.front.now _ (sym c.in_default-vlan_id.ensures))

pub returns : goal.returns
returns c = sym (by_cut c.args.name.now c.text.result.now c.in-Some.front.now c.in-Some.digits.now c.text.ensures.bytes c.in-Some.ensures
    ∙ both_parts c.in-Some.front.now c.in-Some-read_name.lower _ c.in-Some-vlan_id.id c.in-Some-read_name.ensures.some.1 c.in-Some-read_name.ensures.some.0 (sym c.in-Some-vlan_id.ensures))
