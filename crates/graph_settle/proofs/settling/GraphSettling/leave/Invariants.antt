use Rattle.std.proofs.Common.{◌≡◌}
use Rattle.graph_rules.specs.After.{absent_after}
use Rattle.graph_settle.specs.Leaving.{left_gift}
use Rattle.graph_settle.proofs.LeaveLemmas.{told}
use Rattle.graph_settle.proofs.settling.GraphSettling.leave.Given as goal

-- of the gifts so far those are let go whose names are not up
abbrev pub invariant-loop-place : goal.invariant-loop-place
invariant-loop-place g l = record {
  gifts : l.self.gifts ≡ told (left_gift (absent_after l.fn.self.graph l.fn.id.0)) l.place l.fn.self.gifts;
  graph : l.self.graph ≡ absent_after l.fn.self.graph l.fn.id.0;
  may_lose_link : l.self.may_lose_link ≡ l.fn.self.may_lose_link;
}
