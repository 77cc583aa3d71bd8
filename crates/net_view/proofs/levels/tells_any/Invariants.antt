use Rattle.std.proofs.Common.{◌≡◌, drop}
use Rattle.std.specs.List.{list_any}
use Rattle.net_rules.specs.Inputs.{facts_of}
use Rattle.net_view.specs.Levels.{test_of}
use Rattle.net_view.proofs.levels.tells_any.Given as goal

-- it is told of none so far
abbrev pub invariant-loop-name : goal.invariant-loop-name
invariant-loop-name l = list_any (test_of (facts_of l.inputs) l.told) l.names ≡ list_any (test_of (facts_of l.inputs) l.told) (drop l.name-index l.names)
