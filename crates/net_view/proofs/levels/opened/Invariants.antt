use Rattle.std.proofs.Common.{◌≡◌, map, take}
use Rattle.net_rules.specs.Available.{opens_at}
use Rattle.net_rules.specs.Inputs.{facts_of}
use Rattle.net_view.specs.Levels.{test_of}
use Rattle.net_view.proofs.levels.opened.Given as goal

abbrev pub invariant-loop-row : goal.invariant-loop-row
invariant-loop-row l = l.answers.items ≡ map (λ row. opens_at (facts_of l.inputs) (test_of (facts_of l.inputs) l.below) row.name) (take l.row-index l.names)
