use Rattle.std.proofs.Common.{◌≡◌, take}
use Rattle.std.specs.List.{filter_map}
use Rattle.net_rules.specs.Firsts.{firsts}
use Rattle.net_rules.specs.Need.{radio_need}
use Rattle.net_after.proofs.needed.radio_needs.Given as goal

-- the needs of the radios so far
abbrev pub invariant-loop-place : goal.invariant-loop-place
invariant-loop-place l = l.needs ≡ filter_map radio_need (firsts (λ row. row.name) (take l.place l.radios))
