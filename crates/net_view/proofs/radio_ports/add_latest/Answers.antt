use Rattle.std.proofs.Common.{[], List, Option, ◌++◌, map, ap, sym, ◌∙◌}
use Rattle.std.specs.Prelude.{ℕ, unwrap_or}
use Rattle.std.specs.List.{filter_map, zip}
use Rattle.net_rules.specs.Inputs.{facts_of}
use Rattle.net_view.specs.RadioPorts.{as_answered, port_of_pair, enabled}
use Rattle.net_view.proofs.PortLemmas.{no_ports}
use Rattle.net_view.proofs.radio_ports.add_latest.Goals as goal

pub returns-in-None : goal.returns-in-None
returns-in-None c =
    no_ports (facts_of c.args.inputs.now) c.args.rows.now (map as_answered c.args.ports.now.items)
    ∙ ap (λ (l : Option (List (Option (List ℕ)))). map as_answered c.args.ports.now.items ++ filter_map (port_of_pair (facts_of c.args.inputs.now)) (zip (enabled c.args.rows.now) (unwrap_or l []))) (sym c.in-None.is)
