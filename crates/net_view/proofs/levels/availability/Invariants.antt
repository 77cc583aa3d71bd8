use Rattle.net_rules.specs.Inputs.{facts_of}
use Rattle.net_view.specs.declared.levels.Question.TheVariants as asked
use Rattle.net_view.specs.Levels.{IsToldBy}
use Rattle.net_view.proofs.levels.availability.Given as goal

-- what is told looks so many levels down
abbrev pub invariant-loop-level : goal.invariant-loop-level
invariant-loop-level l = IsToldBy (facts_of l.inputs) asked.Available l.level l.told
