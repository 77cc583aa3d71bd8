use Rattle.std.proofs.Common.{refl}
use Rattle.net_rules.specs.Inputs.{facts_of}
use Rattle.net_view.specs.declared.levels.Question.TheVariants as asked
use Rattle.net_view.proofs.LevelLemmas.{one_level_more}
use Rattle.net_view.proofs.levels.links.Goals as goal

pub loop-level-init : goal.loop-level-init
loop-level-init c = c.in_ok-told.ensures (facts_of c.args.inputs.now) c.as_slice.ensures

pub loop-level-preserved : goal.loop-level-preserved
loop-level-preserved c = one_level_more (facts_of c.args.inputs.now) asked.Link c.loop-level.level c.loop-level.told _ c.as_slice-in-loop-level.result.now c.loop-level.invariant c.as_slice-in-loop-level.ensures
    refl refl c.in_ok-by_row.ensures
