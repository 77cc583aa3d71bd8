use Rattle.std.proofs.Common.{◌≡◌, ◌+◌, ℕ, length, take, nat_lt}
use Rattle.use_counts.specs.NodeRule.{node_at, occurs, after_upper, rank_of}
use Rattle.use_counts.specs.Uses.{AreMarked}
use Rattle.use_counts.proofs.downward.tell_lowers.Given as goal

abbrev pub invariant-loop-lower : goal.invariant-loop-lower
invariant-loop-lower g l =
    record {
      size : length l.nodes ≡ length l.fn.nodes;
      after_upper : (k : ℕ) → node_at l.nodes k ≡ after_upper l.was l.now (nat_lt 0 (rank_of l.ranks k)) (node_at l.fn.nodes k) (occurs k (take l.lower-index l.lowers));
      uses : AreMarked l.fn.nodes l.nodes l.fn.uses l.uses;
      cost : l.steps ≡ l.fn.steps + l.lower-index;
    }
