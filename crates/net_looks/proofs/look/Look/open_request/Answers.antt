use Rattle.std.proofs.Common.{List, ap, ◌∙◌}
use Rattle.net_rules.specs.declared.inputs.OpenInterface.{OpenInterface}
use Rattle.net_view.specs.Places.{named}
use Rattle.net_looks.proofs.look.Look.open_request.Goals as goal

pub returns : goal.returns
returns c = c.ask_for.ensures ∙ ap (λ (z : List OpenInterface). named (λ (o : OpenInterface). o.request.name) z c.args.interface.now) c.interfaces.ensures
