use Rattle.std.proofs.Common.{sym, ◌∙◌}
use Rattle.net_rules.specs.Inputs.{facts_of}
use Rattle.net_wants.proofs.ViewLemmas.{stands_on_none, stands_by_row}
use Rattle.net_wants.proofs.users.stands.Goals as goal

pub returns-in-Some : goal.returns-in-Some
returns-in-Some c = c.stands_by_row.ensures ∙ sym (stands_by_row (facts_of c.args.inputs.now) c.args.upper.now c.in-Some.row.now c.in-Some.ensures c.args.lower.now)

pub returns-in-None : goal.returns-in-None
returns-in-None c = sym (stands_on_none (facts_of c.args.inputs.now) c.args.upper.now c.in-None.ensures c.args.lower.now)
