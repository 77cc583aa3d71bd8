use Rattle.net_rules.specs.Inputs.{facts_of}
use Rattle.net_wants.proofs.ViewLemmas.{is_used_by}
use Rattle.net_wants.proofs.view.View.is_used.Goals as goal

pub returns : goal.returns
returns c = is_used_by (facts_of c.args.inputs.now) c.args.name.now c.serves.result (c.serves.ensures 7 c.requires.under)
