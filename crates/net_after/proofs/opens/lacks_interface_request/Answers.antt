use Rattle.std.proofs.Common.{ap, ◌∙◌}
use Rattle.std.specs.Prelude.{is_some, not}
use Rattle.net_rules.specs.declared.inputs.OpenInterface.{OpenInterface}
use Rattle.net_rules.specs.Inputs.{open_interface}
use Rattle.net_view.proofs.PlaceLemmas.{place_is_found}
use Rattle.net_after.proofs.AskedLemmas.{none_is_not_some}
use Rattle.net_after.proofs.opens.lacks_interface_request.Goals as goal

pub returns : goal.returns
returns c = ap not (c.contains_key.ensures ∙ ap is_some (c.requires c.args.name.now) ∙ place_is_found (λ (o : OpenInterface). o.request.name) c.args.current.now c.args.name.now)
    ∙ none_is_not_some (open_interface c.args.current.now c.args.name.now)
