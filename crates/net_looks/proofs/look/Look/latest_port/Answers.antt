use Rattle.std.proofs.Common.{ℕ, List, [], Option, sym, ap, ◌∙◌}
use Rattle.std.specs.Prelude.{unwrap_or}
use Rattle.std.specs.List.{filter_map, zip}
use Rattle.net_view.specs.RadioPorts.{port_of_pair, enabled}
use Rattle.net_looks.specs.Look.{facts_at}
use Rattle.net_looks.specs.Ports.{port_for}
use Rattle.net_looks.proofs.PortLemmas.{no_port_told}
use Rattle.net_looks.proofs.look.Look.latest_port.Goals as goal

pub returns-in-None : goal.returns-in-None
returns-in-None c =
    no_port_told (facts_at c.args.self.now) c.args.interface.now c.args.rows.now
    ∙ sym (ap (λ (o : Option (List (Option (List ℕ)))). port_for c.args.interface.now (filter_map (port_of_pair (facts_at c.args.self.now)) (zip (enabled c.args.rows.now) (unwrap_or o [])))) c.in-None.is)
