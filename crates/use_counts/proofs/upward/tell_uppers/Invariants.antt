use Rattle.std.proofs.Common.{◌≡◌, ◌+◌, ℕ, length, take}
use Rattle.use_counts.specs.NodeRule.{node_at, occurs, after_lower}
use Rattle.use_counts.proofs.upward.tell_uppers.Given as goal

abbrev pub invariant-loop-upper : goal.invariant-loop-upper
invariant-loop-upper g l =
    record {
      size : length l.nodes ≡ length l.fn.nodes;
      after_lower : (k : ℕ) → node_at l.nodes k ≡ after_lower l.change (node_at l.fn.nodes k) (occurs k (take l.upper-index l.uppers));
      cost : l.steps ≡ l.fn.steps + l.upper-index;
    }
