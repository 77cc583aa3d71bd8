-- Sets of numbers as the bits of words, and the nodes that wait to be computed.
use Rattle.std.specs.Prelude.{◌≡◌, ◌+◌, ◌<◌, ◌≤◌, ℕ, ◌/◌, ◌%◌, true, List, slice_index}
use Rattle.std.specs.Int.{bit_at}
use Rattle.use_counts.specs.declared.node.Node.{Node}
use Rattle.use_counts.specs.NodeRule.{node_at, rank_at}

-- 1 where the number is in the set, else 0
abbrev pub mark : List ℕ → ℕ → ℕ
mark words n = bit_at (slice_index words (n / 64)) (n % 64)

-- the stale node of least rank among the made ones has this rank, less 1
pub record IsFirstStale (nodes : List Node) (turn : ℕ) : Type 0 where
  pub place : ℕ
  pub rank : rank_at nodes place ≡ turn + 1
  pub stale : (node_at nodes place).stale ≡ true
  pub least : (k : ℕ) → 0 < rank_at nodes k → (node_at nodes k).stale ≡ true
      → turn < rank_at nodes k

-- the node of greatest rank whose use is stale has this rank, less 1
pub record IsLastUseStale (nodes : List Node) (turn : ℕ) : Type 0 where
  pub place : ℕ
  pub rank : rank_at nodes place ≡ turn + 1
  pub use_stale : (node_at nodes place).use_stale ≡ true
  pub greatest : (k : ℕ) → 0 < rank_at nodes k → (node_at nodes k).use_stale ≡ true
      → rank_at nodes k ≤ turn + 1
