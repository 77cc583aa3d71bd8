use Rattle.std.proofs.Common.{◌≡◌, take}
use Rattle.std.specs.List.{filter_map}
use Rattle.net_rules.specs.Firsts.{firsts}
use Rattle.net_rules.specs.Need.{interface_need}
use Rattle.net_rules.specs.Inputs.{facts_of}
use Rattle.net_after.proofs.needed.interface_needs.Given as goal

-- the needs of the interfaces so far
abbrev pub invariant-loop-place : goal.invariant-loop-place
invariant-loop-place l = l.needs ≡ filter_map (interface_need (facts_of l.inputs)) (firsts (λ row. row.name) (take l.place l.interfaces))
