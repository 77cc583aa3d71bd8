-- What holds of nodes and their counts while an event is worked off.
use Rattle.std.specs.Prelude.{ℕ, ◌+◌, ◌<◌, ◌≤◌, ◌≡◌, ◌≢◌, ◌||◌, Bool, true, false, not, if◌then◌else◌, List, length}
use Rattle.std.specs.Prelude.{nat_lt, slice_index, ◌-◌, [], slice_get, Option, Some, None, Vec}
use Rattle.std.specs.declared.alloc.Global.{Global}
use Rattle.use_counts.specs.declared.node.Kind.{Kind}
use Rattle.std.specs.List.{AllByRecursion}
use Rattle.use_counts.specs.declared.node.Edge.{Edge}
use Rattle.use_counts.specs.declared.node.Node.{Node}
use Rattle.use_counts.specs.declared.node.Change.{Change}
use Rattle.use_counts.specs.NodeRule.{opens, links, carries, is_used, rank_at, times, node_at, occurs, after_lower}
use Rattle.use_counts.specs.NodeRule.{after_upper}
use Rattle.use_counts.specs.Edges.{lower_end, upper_end, counted, edges_at}

-- the kept answers by number
abbrev pub available_at : List Node → ℕ → Bool
available_at nodes k = (node_at nodes k).available

-- the kept link
abbrev pub link_at : List Node → ℕ → Bool
link_at nodes k = (node_at nodes k).link

-- the kept use
abbrev pub used_at : List Node → ℕ → Bool
used_at nodes k = (node_at nodes k).used

-- An edge between two nodes whose upper one is made. Where the lower one is made too, it has a lower
-- rank.
pub record RunsUp (rank : ℕ → ℕ) (size lower upper : ℕ) : Type 0 where
  pub made_upper : 0 < rank upper
  pub node_upper : upper < size
  pub node_lower : lower < size
  pub order : 0 < rank lower → rank lower < rank upper

-- every edge does
abbrev pub AllRunUp : (ℕ → ℕ) → ℕ → List Edge → Type 0
AllRunUp rank size edges = AllByRecursion (λ e. RunsUp rank size e.lower e.upper) edges

-- The places of the made nodes by rank, from rank 1 on, and the rank of each node. A node that is not
-- made has rank 0.
pub record IsOrder (order : List ℕ) (rank : ℕ → ℕ) (size : ℕ) : Type 0 where
  pub made_at : (turn : ℕ) → turn < length order → (slice_index order turn < size)
      × (rank (slice_index order turn) ≡ turn + 1)
  pub turn_of : (k : ℕ) → 0 < rank k → (rank k ≤ length order)
      × (slice_index order (rank k - 1) ≡ k)

-- availability and link are what the counts of the node give
pub record FollowsCounts (node : Node) : Type 0 where
  pub available : node.available ≡ opens node.kind node.present node.open_lowers
  pub link : node.link ≡ links node.kind node.available (carries node) node.linked_lowers

-- All counts agree with the kept answers of the neighbours. What is not stale agrees with the counts.
pub record HoldsCounts (edges : List Edge) (nodes : List Node) : Type 0 where
  pub open_lowers : (k : ℕ) → (node_at nodes k).open_lowers
      ≡ counted upper_end lower_end (available_at nodes) edges k
  pub linked_lowers : (k : ℕ) → (node_at nodes k).linked_lowers
      ≡ counted upper_end lower_end (link_at nodes) edges k
  pub demand : (k : ℕ) → (node_at nodes k).demand ≡ (node_at nodes k).claims
      + counted lower_end upper_end (used_at nodes) edges k
  pub stale : (k : ℕ) → (node_at nodes k).stale ≡ false → FollowsCounts (node_at nodes k)
  pub use_stale : (k : ℕ) → (node_at nodes k).use_stale ≡ false → (node_at nodes k).used
      ≡ is_used (node_at nodes k).available (node_at nodes k).demand

-- exactly one of two is true
abbrev pub differs : Bool → Bool → Bool
differs true b = not b
differs false b = b

-- a node computed anew: availability and link, and the use of one that is not made; the use of a made
-- one is stale
abbrev pub settled : Bool → Node → Node
settled is_made node =
    let available = opens node.kind node.present node.open_lowers in
    record node {
      available = available;
      link = links node.kind available (carries node) node.linked_lowers;
      used = if is_made then node.used else is_used available node.demand;
      stale = false;
      use_stale = node.use_stale || is_made;
    }

-- what the nodes above see of a node that moved
abbrev pub change_of : Node → Node → Change
change_of was now =
    record {
      was_available = was.available;
      now_available = now.available;
      had_link = was.link;
      has_link = now.link;
    }

-- availability or link differ
abbrev pub moved : Node → Node → Bool
moved was now = differs was.available now.available || differs was.link now.link

-- one node is computed anew, and those above it count how it moved
pub record SettledAt (rank : ℕ → ℕ) (uppers : List ℕ) (place : ℕ)
    (old new : List Node) : Type 0 where
  pub here : node_at new place ≡ settled (nat_lt 0 (rank place)) (node_at old place)
  pub others : (k : ℕ) → k ≢ place → node_at new k
      ≡ after_lower (change_of (node_at old place) (node_at new place)) (node_at old k)
      (times (moved (node_at old place) (node_at new place)) (occurs k uppers))

-- the items of a list, or none
abbrev pub items_of : Option (Vec ℕ Global) → List ℕ
items_of None = []
items_of (Some v) = v.items

-- the items of a list in a list
abbrev pub items_at : List (Vec ℕ Global) → ℕ → List ℕ
items_at lists k = items_of (slice_get lists k)

-- what rows and events say of a node
pub record Member : Type 0 where
  pub kind : Kind
  pub level : ℕ
  pub present : Bool
  pub carrier : Bool
  pub claims : ℕ

-- what they said of a kept node
abbrev pub member_of : Node → Member
member_of node =
    record {
      kind = node.kind;
      level = node.level;
      present = node.present;
      carrier = node.carrier;
      claims = node.claims;
    }

-- Upward so far: what is stale has a greater rank than p, and nodes of greater rank answer as before.
-- Each visit is of an edge over a node that moved.
pub record UpTo (edges : List Edge) (rank : ℕ → ℕ) (p : ℕ) (before nodes : List Node)
    (started spent : ℕ) : Type 0 where
  pub kept : HoldsCounts edges nodes
  pub ranks : (k : ℕ) → rank_at nodes k ≡ rank k
  pub size : length nodes ≡ length before
  pub marks : (k : ℕ) → (node_at nodes k).stale ≡ true → p < rank k
  pub use_marks : (k : ℕ) → (node_at nodes k).use_stale ≡ true → 0 < rank k
  pub untouched : (k : ℕ) → p < rank k → moved (node_at before k) (node_at nodes k) ≡ false
  pub members : (k : ℕ) → member_of (node_at nodes k) ≡ member_of (node_at before k)
  pub used : (k : ℕ) → 0 < rank k → used_at nodes k ≡ used_at before k
  pub cost : spent ≤ started + edges_at lower_end
      (λ k. moved (node_at before k) (node_at nodes k)) edges

-- a node with its use computed anew
abbrev pub use_settled : Node → Node
use_settled node = record node { used = is_used node.available node.demand; use_stale = false }

-- the use of one node is computed anew, and those under it count how it changed
pub record UseSettledAt (rank : ℕ → ℕ) (lowers : List ℕ) (place : ℕ)
    (old new : List Node) : Type 0 where
  pub here : node_at new place ≡ use_settled (node_at old place)
  pub others : (k : ℕ) → k ≢ place → node_at new k
      ≡ after_upper (used_at old place) (used_at new place) (nat_lt 0 (rank k)) (node_at old k)
      (times (differs (used_at old place) (used_at new place)) (occurs k lowers))

-- Downward so far: a stale use has a rank of at most p, and made nodes of rank at most p are used as
-- before. Each visit is of an edge under a node whose use changed.
pub record DownTo (edges : List Edge) (rank : ℕ → ℕ) (p : ℕ) (before nodes : List Node)
    (started spent : ℕ) : Type 0 where
  pub kept : HoldsCounts edges nodes
  pub ranks : (k : ℕ) → rank_at nodes k ≡ rank k
  pub size : length nodes ≡ length before
  pub ups : (k : ℕ) → (node_at nodes k).stale ≡ false
  pub use_marks : (k : ℕ) → (node_at nodes k).use_stale ≡ true → (0 < rank k) × (rank k ≤ p)
  pub untouched : (k : ℕ) → 0 < rank k → rank k ≤ p → differs (used_at before k) (used_at nodes k)
      ≡ false
  pub members : (k : ℕ) → member_of (node_at nodes k) ≡ member_of (node_at before k)
  pub still : (k : ℕ) → moved (node_at before k) (node_at nodes k) ≡ false
  pub cost : spent ≤ started + edges_at upper_end
      (λ k. differs (used_at before k) (used_at nodes k)) edges

-- the counts hold, and nothing is stale
pub record IsCalm (edges : List Edge) (nodes : List Node) : Type 0 where
  pub kept : HoldsCounts edges nodes
  pub ups : (k : ℕ) → (node_at nodes k).stale ≡ false
  pub downs : (k : ℕ) → (node_at nodes k).use_stale ≡ false

-- the edges over nodes that moved and those under nodes whose use changed
abbrev pub visits_due : List Edge → List Node → List Node → ℕ
visits_due edges before after =
    edges_at lower_end (λ k. moved (node_at before k) (node_at after k)) edges
    + edges_at upper_end (λ k. differs (used_at before k) (used_at after k)) edges

-- all is computed, with no more visits than are due
pub record Settles (edges : List Edge) (before nodes : List Node) (started spent : ℕ) : Type 0 where
  pub rest : IsCalm edges nodes
  pub ranks : (k : ℕ) → rank_at nodes k ≡ rank_at before k
  pub size : length nodes ≡ length before
  pub members : (k : ℕ) → member_of (node_at nodes k) ≡ member_of (node_at before k)
  pub cost : spent ≤ started + visits_due edges before nodes
