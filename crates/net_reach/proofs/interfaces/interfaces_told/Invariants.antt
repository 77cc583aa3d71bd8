use Rattle.std.proofs.Common.{take}
use Rattle.net_reach.specs.Groups.{HasMembers}
use Rattle.net_reach.specs.Reach.{is_at_l3_device}
use Rattle.net_reach.proofs.interfaces.interfaces_told.Given as goal

-- the map has the places of the rows so far
abbrev pub invariant-loop-place : goal.invariant-loop-place
invariant-loop-place l = HasMembers l.groups (is_at_l3_device l.inputs) (take l.place l.rows)
