use Rattle.std.proofs.Common.{ap, ◌∙◌}
use Rattle.net_rules.specs.declared.inputs.Inputs.{Inputs}
use Rattle.net_after.proofs.AskedLemmas.{still_countable, number_stays, after_ok}
use Rattle.net_after.proofs.steps.after.Goals as goal

pub asked-requires : goal.asked-requires
asked-requires c = still_countable c.args.inputs c.in_ok-now.now (ap (λ (z : Inputs). z.next) c.in_ok-now.ensures ∙ number_stays c.args.inputs c.args.event) c.requires

pub returns : goal.returns
returns c = after_ok c.args.inputs c.args.event c.in_ok-now.now c.asked.result c.in_ok-now.ensures c.asked.ensures
