use Rattle.std.proofs.Common.{List, ap, ◌∙◌}
use Rattle.net_rules.specs.declared.inputs.OpenRadio.{OpenRadio}
use Rattle.net_view.specs.Places.{named}
use Rattle.net_looks.proofs.look.Look.radio_request.Goals as goal

pub returns : goal.returns
returns c = c.request_of_radio.ensures ∙ ap (λ (z : List OpenRadio). named (λ (o : OpenRadio). o.request.name) z c.args.radio.now) c.radios.ensures
