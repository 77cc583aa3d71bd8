use Rattle.std.proofs.Common.{◌≡◌, ◌<◌, ℕ, take, vec_len}
use Rattle.use_counts.specs.Edges.{lower_end, upper_end, far_ends}
use Rattle.use_counts.specs.Held.{items_at}
use Rattle.use_counts.proofs.topology.list_lowers.Given as goal

abbrev pub invariant-loop-edge : goal.invariant-loop-edge
invariant-loop-edge l =
    record {
      size : vec_len l.lists ≡ l.count;
      lists : (k : ℕ) → k < l.count → items_at l.lists.items k ≡ far_ends lower_end upper_end (take l.edge-index l.edges) k;
    }
