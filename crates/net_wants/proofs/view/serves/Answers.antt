use Rattle.std.proofs.Common.{◌∙◌}
use Rattle.net_rules.specs.Inputs.{facts_of}
use Rattle.net_wants.proofs.ViewLemmas.{serves_is}
use Rattle.net_wants.proofs.view.serves.Goals as goal

pub returns : goal.returns
returns c = λ k above. serves_is (facts_of c.args.inputs.now) k c.args.name.now c.is_available.result c.contains-is_claimed.result c.contains-is_under.result c.is_available.ensures
    (c.contains-is_claimed.ensures ∙ c.requires.claimed c.args.name.now) (c.contains-is_under.ensures ∙ above c.args.name.now)
