use Rattle.std.proofs.Common.{ℕ, ◌+◌, map, take}
use Rattle.std.specs.Prelude.{◌&&◌}
use Rattle.std.specs.List.{list_any}
use Rattle.net_rules.specs.Levels.{by_levels}
use Rattle.net_rules.specs.Standing.{stands}
use Rattle.net_rules.specs.Used.{serves_at}
use Rattle.net_rules.specs.Inputs.{facts_of}
use Rattle.net_view.specs.Names.{HasNames}
use Rattle.net_wants.specs.View.{HasAbove}
use Rattle.net_wants.proofs.view.one_level_under.Given as goal

-- the names under those of the rows so far that are used
abbrev pub invariant-loop-row : goal.invariant-loop-row
invariant-loop-row l = (k : ℕ) → HasAbove (facts_of l.inputs) k l.under
    → HasNames l.more (λ q. list_any (λ upper. stands (facts_of l.inputs) q upper && by_levels (k + 1) (serves_at (facts_of l.inputs)) upper) (map (λ row. row.name) (take l.row-index l.names)))
