use Rattle.std.proofs.Common.{List, [], None, Some, ap, ◌∙◌}
use Rattle.std.specs.Prelude.{unwrap_or}
use Rattle.std.specs.List.{filter_map, zip}
use Rattle.net_rows.specs.declared.rows.WifiRow.{WifiRow}
use Rattle.net_view.specs.RadioPorts.{port_of_pair, enabled}
use Rattle.net_view.proofs.PortLemmas.{told_of_radio}
use Rattle.net_looks.specs.Look.{facts_at}
use Rattle.net_looks.specs.Ports.{port_for}
use Rattle.net_looks.proofs.PortLemmas.{no_port_told}
use Rattle.net_looks.proofs.look.Look.port_of_radio.Goals as goal

pub returns-in-Some : goal.returns-in-Some
returns-in-Some c =
    c.latest_port.ensures
    ∙ ap (λ (z : List WifiRow). port_for c.args.interface.now (filter_map (port_of_pair (facts_at c.args.self.now)) (zip (enabled z) (unwrap_or c.in-Some.asked.now.ports [])))) c.as_slice.ensures
    ∙ ap (port_for c.args.interface.now) (told_of_radio c.args.self.now.inputs.now.inputs c.args.radio.now (Some c.in-Some.asked.now) c.in-Some.ensures)

pub returns-in-None : goal.returns-in-None
returns-in-None c =
    no_port_told (facts_at c.args.self.now) c.args.interface.now c.args.radio.now.rows
    ∙ ap (port_for c.args.interface.now) (told_of_radio c.args.self.now.inputs.now.inputs c.args.radio.now None c.in-None.ensures)
