use Rattle.net_rules.specs.Inputs.{facts_of}
use Rattle.net_wants.specs.View.{HasAbove}
use Rattle.net_wants.proofs.view.names_under.Given as goal

-- the names under those used, as far as so many levels tell
abbrev pub invariant-loop-level : goal.invariant-loop-level
invariant-loop-level l = HasAbove (facts_of l.inputs) l.level l.under
