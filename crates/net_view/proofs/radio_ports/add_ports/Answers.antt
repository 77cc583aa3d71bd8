use Rattle.std.proofs.Common.{List, [], ◌++◌, map, ap, ◌∙◌, None, Some}
use Rattle.std.specs.Prelude.{unwrap_or}
use Rattle.std.specs.List.{filter_map, zip}
use Rattle.net_rows.proofs.WordLemmas.{on_ok_then}
use Rattle.net_rows.specs.declared.rows.WifiRow.{WifiRow}
use Rattle.net_rules.specs.Inputs.{facts_of}
use Rattle.net_rules.specs.RadioPorts.{AnsweredPort}
use Rattle.net_view.specs.RadioPorts.{as_answered, port_of_pair, enabled}
use Rattle.net_view.proofs.PortLemmas.{told_of_radio, no_ports}
use Rattle.net_view.proofs.radio_ports.add_ports.Goals as goal

pub returns-in-Some : goal.returns-in-Some
returns-in-Some c =
    let before : List AnsweredPort = map as_answered c.args.ports.now.items in
    on_ok_then c.add_latest.result (λ made.
    made
    ∙ ap (λ (z : List WifiRow). before ++ filter_map (port_of_pair (facts_of c.args.inputs.now)) (zip (enabled z) (unwrap_or c.in-Some.found.now.ports []))) c.as_slice.ensures
    ∙ ap (λ (z : List AnsweredPort). before ++ z) (told_of_radio c.args.inputs.now c.args.radio.now (Some c.in-Some.found.now) c.in-Some.ensures)) c.add_latest.ensures

pub returns-in-None : goal.returns-in-None
returns-in-None c =
    no_ports (facts_of c.args.inputs.now) c.args.radio.now.rows (map as_answered c.args.ports.now.items)
    ∙ ap (λ (z : List AnsweredPort). map as_answered c.args.ports.now.items ++ z) (told_of_radio c.args.inputs.now c.args.radio.now None c.in-None.ensures)
