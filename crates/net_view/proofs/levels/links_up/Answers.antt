use Rattle.std.proofs.Common.{◌∙◌}
use Rattle.net_rules.specs.Inputs.{facts_of}
use Rattle.net_view.specs.Levels.{test_of}
use Rattle.net_view.proofs.LevelLemmas.{links_with_row, links_without_row, tells_available}
use Rattle.net_view.proofs.levels.links_up.Goals as goal

pub returns-in-Some : goal.returns-in-Some
returns-in-Some c =
    c.links_by_row.ensures
    ∙ links_with_row (facts_of c.args.inputs.now) (test_of (facts_of c.args.inputs.now) c.args.below.now) c.args.name.now c.in-Some.row.now c.tells-is_ready.result
    (c.tells-is_ready.ensures ∙ tells_available (facts_of c.args.inputs.now) c.args.available.now c.args.name.now c.requires.available) c.in-Some.ensures

pub returns-in-None : goal.returns-in-None
returns-in-None c = c.tells_without_row.ensures ∙ links_without_row (facts_of c.args.inputs.now) (test_of (facts_of c.args.inputs.now) c.args.below.now) c.args.name.now c.in-None.ensures
