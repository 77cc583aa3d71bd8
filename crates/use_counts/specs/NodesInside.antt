-- How nodes are stored, and which of them are marked.
use Rattle.std.specs.Prelude.{◌≡◌, ◌-◌, ◌*◌, ◌<◌, ◌≤◌, ℕ, Bool, true, List, length, map, slice_index, unwrap_or, IsSome}
use Rattle.slab.specs.Slab.{Slab, get}
use Rattle.use_counts.specs.declared.node.Node.{Node}
use Rattle.use_counts.specs.NodeRule.{no_node, node_at, rank_at}
use Rattle.use_counts.specs.Marked.{mark}

-- the node under a key
abbrev pub stored : Slab Node → ℕ → Node
stored slab key = unwrap_or (get slab key) no_node

-- the nodes under some keys
abbrev pub list_of : Slab Node → List ℕ → List Node
list_of slab keys = map (stored slab) keys

-- each key has a node of its own
pub record AreKeys (slab : Slab Node) (keys : List ℕ) : Type 0 where
  pub held : (k : ℕ) → k < length keys → IsSome (get slab (slice_index keys k))
  pub apart : (j k : ℕ) → j < length keys → k < length keys
      → slice_index keys j ≡ slice_index keys k → j ≡ k

-- ranks go up to a number, and no two nodes have the same one but 0
pub record AreRanked (made : ℕ) (nodes : List Node) : Type 0 where
  pub top : (k : ℕ) → rank_at nodes k ≤ made
  pub one : (j k : ℕ) → 0 < rank_at nodes j → rank_at nodes j ≡ rank_at nodes k → j ≡ k

-- a made node with the flag, whose rank has that index
pub record IsMarked (index : ℕ → ℕ) (flag : Node → Bool) (nodes : List Node) (n : ℕ) : Type 0 where
  pub place : ℕ
  pub made : 0 < rank_at nodes place
  pub is : n ≡ index (rank_at nodes place)
  pub flagged : flag (node_at nodes place) ≡ true

-- marked are the indexes of the ranks of the made nodes that have the flag
pub record AreMarked (index : ℕ → ℕ) (flag : Node → Bool) (nodes : List Node) (words : List ℕ)
    : Type 0 where
  pub some : (n : ℕ) → mark words n ≡ 1 → IsMarked index flag nodes n
  pub all : (k : ℕ) → 0 < rank_at nodes k → flag (node_at nodes k) ≡ true
      → mark words (index (rank_at nodes k)) ≡ 1

-- the lowest rank comes first
abbrev pub upward_index : ℕ → ℕ
upward_index rank = rank - 1

-- the highest rank comes first
abbrev pub downward_index : ℕ → ℕ → ℕ
downward_index made rank = made - rank

abbrev pub is_stale : Node → Bool
is_stale node = node.stale

abbrev pub is_use_stale : Node → Bool
is_use_stale node = node.use_stale

pub record AreSound (slab : Slab Node) (keys : List ℕ) (made : ℕ) (stale use_stale : List ℕ)
    : Type 0 where
  pub keyed : AreKeys slab keys
  pub ranked : AreRanked made (list_of slab keys)
  pub stale_room : made ≤ 64 * length stale
  pub use_room : made ≤ 64 * length use_stale
  pub stale_marks : AreMarked upward_index is_stale (list_of slab keys) stale
  pub use_marks : AreMarked (downward_index made) is_use_stale (list_of slab keys) use_stale
