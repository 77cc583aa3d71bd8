use Rattle.std.proofs.Common.{◌≡◌, ◌≤◌, take, length, map}
use Rattle.std.specs.Prelude.{filter, ◌&&◌}
use Rattle.net_rules.specs.Standing.{stands}
use Rattle.net_rules.specs.Used.{used}
use Rattle.net_rules.specs.Inputs.{facts_of}
use Rattle.net_wants.proofs.users.uppers_using.Given as goal

-- those of the rows so far are counted
abbrev pub invariant-loop-row : goal.invariant-loop-row
invariant-loop-row l = (l.count ≡ length (filter (λ upper. stands (facts_of l.inputs) l.name upper && used (facts_of l.inputs) upper) (map (λ row. row.name) (take l.row-index l.names)))) × (l.count ≤ l.row-index)
