use Rattle.std.proofs.Common.{◌∙◌}
use Rattle.net_rules.specs.Inputs.{facts_of}
use Rattle.net_view.specs.Levels.{test_of}
use Rattle.net_view.proofs.LevelLemmas.{opens_with_row, opens_without_row}
use Rattle.net_view.proofs.levels.opens.Goals as goal

pub returns-in-Some : goal.returns-in-Some
returns-in-Some c = c.opens_by_row.ensures ∙ opens_with_row (facts_of c.args.inputs.now) (test_of (facts_of c.args.inputs.now) c.args.below.now) c.args.name.now c.in-Some.row.now c.in-Some.ensures

pub returns-in-None : goal.returns-in-None
returns-in-None c = c.tells_without_row.ensures ∙ opens_without_row (facts_of c.args.inputs.now) (test_of (facts_of c.args.inputs.now) c.args.below.now) c.args.name.now c.in-None.ensures
