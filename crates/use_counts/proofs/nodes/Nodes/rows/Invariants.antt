use Rattle.std.proofs.Common.{ℕ, ◌<◌, ◌≡◌, length}
use Rattle.use_counts.specs.NodeRule.{node_at, row_at}
use Rattle.use_counts.specs.Held.{member_of}
use Rattle.use_counts.specs.Network.{row_of}
use Rattle.use_counts.proofs.nodes.Nodes.rows.Given as goal

abbrev pub invariant-loop-place : goal.invariant-loop-place
invariant-loop-place l =
    record {
      size : length l.rows.items ≡ l.place;
      rows : (k : ℕ) → k < l.place → row_at l.rows.items k ≡ row_of (member_of (node_at l.self k));
    }
