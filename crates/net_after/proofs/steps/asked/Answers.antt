use Rattle.std.proofs.Common.{◌≡◌, List, ap, sym, ◌∙◌}
use Rattle.std.specs.List.{filter_map}
use Rattle.net_rows.specs.declared.rows.Conf.{Conf}
use Rattle.net_rows.specs.declared.rows.InterfaceRow.{InterfaceRow}
use Rattle.net_rows.specs.declared.rows.RadioRow.{RadioRow}
use Rattle.net_rules.specs.Rows.{radios_of}
use Rattle.net_rules.specs.Firsts.{firsts}
use Rattle.net_rules.specs.Inputs.{facts_of}
use Rattle.net_rules.specs.Need.{interface_need, radio_need}
use Rattle.net_after.proofs.AskedLemmas.{still_countable, needs_now, conf_now, next_now, asked_ok}
use Rattle.net_after.proofs.steps.asked.Goals as goal

pub requests_opened-requires-clause-countable : goal.requests_opened-requires-clause-countable
requests_opened-requires-clause-countable c = still_countable c.args.inputs c.in_ok-left.left (next_now c.args.inputs c.in_ok-dropped.dropped c.in_ok-left.left c.in_ok-dropped.ensures c.in_ok-left.ensures) c.requires

pub requests_opened-requires-clause-interfaces : goal.requests_opened-requires-clause-interfaces
requests_opened-requires-clause-interfaces c = needs_now c.in_ok-dropped.dropped c.in_ok-left.left c.in_ok-for_interfaces.for_interfaces c.in_ok-left.ensures
    (c.in_ok-for_interfaces.ensures ∙ ap (λ (z : List InterfaceRow). filter_map (interface_need (facts_of c.in_ok-dropped.dropped)) (firsts (λ row. row.name) z)) c.as_slice-rows.ensures)

pub requests_opened-requires-clause-radios : goal.requests_opened-requires-clause-radios
requests_opened-requires-clause-radios c = c.in_ok-for_radios.ensures ∙ ap (λ (z : List RadioRow). filter_map radio_need (firsts (λ row. row.name) z)) c.as_slice.ensures
    ∙ ap (λ (z : Conf). filter_map radio_need (radios_of z)) (sym (conf_now c.args.inputs c.in_ok-dropped.dropped c.in_ok-left.left c.in_ok-dropped.ensures c.in_ok-left.ensures))

pub returns : goal.returns
returns c = asked_ok c.args.inputs c.in_ok-dropped.dropped c.in_ok-left.left c.requests_opened.result c.in_ok-dropped.ensures c.in_ok-left.ensures c.requests_opened.ensures
