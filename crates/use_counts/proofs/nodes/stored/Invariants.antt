use Rattle.std.proofs.Common.{◌≡◌, ◌<◌, ℕ, vec_len}
use Rattle.use_counts.specs.NodeRule.{node_at, rank_of, row_at, new_node}
use Rattle.use_counts.specs.NodesInside.{AreKeys, list_of}
use Rattle.use_counts.proofs.nodes.stored.Given as goal

abbrev pub invariant-loop-place : goal.invariant-loop-place
invariant-loop-place l =
    record {
      size : vec_len l.keys ≡ l.place;
      keys : AreKeys l.slab l.keys.items;
      nodes : (k : ℕ) → k < l.place → node_at (list_of l.slab l.keys.items) k ≡ new_node (rank_of l.ranks k) (row_at l.rows k);
    }
