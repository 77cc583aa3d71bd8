use Rattle.std.proofs.Common.{take}
use Rattle.std.specs.List.{list_any}
use Rattle.net_rules.specs.Firsts.{firsts}
use Rattle.net_rules.specs.Used.{uses}
use Rattle.net_rules.specs.Inputs.{facts_of}
use Rattle.net_view.specs.Names.{HasNames}
use Rattle.net_wants.proofs.view.claimed_names.Given as goal

-- the names that the interfaces so far use
abbrev pub invariant-loop-place : goal.invariant-loop-place
invariant-loop-place l = HasNames l.names (λ q. list_any (uses (facts_of l.inputs) q) (firsts (λ row. row.name) (take l.place l.interfaces)))
