use Rattle.std.proofs.Common.{◌≡◌, ◌-◌}
use Rattle.net_reach.specs.Walk.{Leads, AreClimbed}
use Rattle.net_reach.proofs.WalkLemmas.{HasClimbed}
use Rattle.net_reach.proofs.walk.climb.Given as goal

-- the rows so far have those above them, and all stand on the base
abbrev pub invariant-loop-next : goal.invariant-loop-next
invariant-loop-next l = record {
  bound : l.rows.bound ≡ l.fn.rows.bound;
  first : Leads l.above l.base l.rows;
  climbed : HasClimbed l.above l.names l.next l.rows;
  only : AreClimbed l.above l.names l.base l.rows;
}

abbrev pub decreases-loop-next : goal.decreases-loop-next
decreases-loop-next l = l.fn.rows.bound - l.next
