use Rattle.std.proofs.Common.{◌≡◌}
use Rattle.graph_settle.specs.Leaving.{looked_at}
use Rattle.graph_settle.proofs.LeaveLemmas.{told}
use Rattle.graph_settle.proofs.settling.GraphSettling.view_lost_links.Given as goal

-- the gifts so far know whether their names fall
abbrev pub invariant-loop-place : goal.invariant-loop-place
invariant-loop-place l = record {
  gifts : l.self.gifts ≡ told (looked_at l.fn.self.graph) l.place l.fn.self.gifts;
  graph : l.self.graph ≡ l.fn.self.graph;
}
