use Rattle.std.proofs.Common.{take}
use Rattle.net_reach.specs.Groups.{HasGroups}
use Rattle.net_reach.specs.Reach.{is_at_device}
use Rattle.net_reach.proofs.interfaces.interfaces_at.Given as goal

-- the map has the places of the rows so far
abbrev pub invariant-loop-place : goal.invariant-loop-place
invariant-loop-place l = HasGroups l.groups (is_at_device l.inputs) (take l.place l.rows)
